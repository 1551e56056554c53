use Rattle.co_math.proofs.Textbook.{product-textbook}
use Rattle.co_math.proofs.laws.product.Goals as goal

pub returns : goal.returns
returns c = product-textbook
