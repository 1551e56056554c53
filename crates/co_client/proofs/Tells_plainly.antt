-- What a search tells of honest exchanges: it answers plainly, and decrypts for sure.
use Rattle.std.proofs.Common.{◌≡◌, ℕ, List, Option, Result, Ok}
use Rattle.rand_core.specs.Stream.{Stream}
use Rattle.co_link.specs.declared.messages.Exchange.{Exchange}
use Rattle.co_noise.specs.Shapes.{Numbers}
use Rattle.co_noise.specs.Bounds.{test_of}
use Rattle.co_text.specs.declared.found.Found.{Found}
use Rattle.co_corpus.specs.declared.documents.Document.{Document}
use Rattle.co_library.specs.declared.settings.Settings.{Settings}
use Rattle.co_library.specs.Libraries.{Parts}
use Rattle.co_rounds.specs.Honest.{AreHonest}
use Rattle.co_rounds.specs.Recording.{IsLibraryFor}
use Rattle.co_client.specs.declared.fault.SearchFault.{SearchFault}
use Rattle.co_client.specs.Causes.{Search, Publishes}
use Rattle.co_client.specs.Telling.{Tells}
use Rattle.co_client.specs.Plain.{AnswersPlainly}
use Rattle.co_client.specs.Sure.{AreSure}
use Rattle.co_client.proofs.Plainly.{search_plain}
use Rattle.co_client.proofs.Sure_replies.{search_sure}

module _ (run : Search) (es : List Exchange) (result : Result Found SearchFault) (left : Stream) (t : Tells run es result left)
    (documents : List Document) (settings : Settings) (l : Parts) (held : Option (List ℕ)) (library : IsLibraryFor documents settings l) (honest : AreHonest l held es) where
  pub tells_plainly : AnswersPlainly documents settings l run.query run.pick result
  tells_plainly = search_plain documents settings l held run es result left library honest t.follows t.goes t.asked t.read t.refused

  pub tells_surely : (s : Numbers) (terms : List (List ℕ)) → Publishes es s terms → test_of s ≡ Ok s → AreSure run es s terms
  tells_surely s terms published passes = search_sure documents settings l held run es result left library honest t.follows t.goes s terms published passes (t.asked s terms published passes)
