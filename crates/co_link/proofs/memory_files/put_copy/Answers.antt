use Rattle.std.proofs.Common.{arith}
use Rattle.std.proofs.lemmas.Map.Text.{text_keys}
use Rattle.co_link.proofs.memory_files.put_copy.Goals as goal

pub returns-clause-others : goal.returns-clause-others
returns-clause-others c = λ q differs. grind (arith, text_keys)
