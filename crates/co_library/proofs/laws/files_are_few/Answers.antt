use Rattle.co_library.proofs.Ascending.{file_few}
use Rattle.co_library.proofs.laws.files_are_few.Goals as goal

pub returns : goal.returns
returns c = file_few
