use Rattle.co_client.proofs.Sure_replies.{search_sure}
use Rattle.co_client.proofs.laws.search_decrypts_surely.Goals as goal

pub returns : goal.returns
returns c = search_sure
