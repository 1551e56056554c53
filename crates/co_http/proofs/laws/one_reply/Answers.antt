use Rattle.co_http.proofs.OnlyOne.{only_reply}
use Rattle.co_http.proofs.laws.one_reply.Goals as goal

pub returns : goal.returns
returns c = only_reply
