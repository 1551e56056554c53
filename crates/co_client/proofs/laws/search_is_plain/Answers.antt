use Rattle.co_client.proofs.Plainly.{search_plain}
use Rattle.co_client.proofs.laws.search_is_plain.Goals as goal

pub returns : goal.returns
returns c = search_plain
