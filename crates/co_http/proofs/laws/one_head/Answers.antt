use Rattle.co_http.proofs.OnlyOne.{only_head}
use Rattle.co_http.proofs.laws.one_head.Goals as goal

pub returns : goal.returns
returns c = only_head
