use Rattle.std.proofs.Common.{arith}
use Rattle.co_text.proofs.Numbered.{distinct_few}
use Rattle.co_commands.proofs.plain.answer.Goals as goal

pub search-requires : goal.search-requires
search-requires c = omega (arith, distinct_few c.in-Ok-query_terms.query, c.in-Ok-query_terms.ensures.ok.1)
