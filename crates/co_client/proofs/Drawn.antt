-- Encryptions that are drawn one after another, and the body that spells them.
use Rattle.std.proofs.Common.{◌≡◌, ℕ, ◌+◌, ◌<◌, ◌≤◌, refl, sym, ap, subst, ◌∙◌, ℤ, List, [], ◌∷◌, ◌++◌, length, get_or, take, map}
use Rattle.std.proofs.lemmas.List.{take_more, take_all, flat_map_more, map_push}
use Rattle.rand_core.specs.Stream.{Stream}
use Rattle.co_math.specs.Coefficients.{IsDegree}
use Rattle.co_noise.specs.Shapes.{Numbers}
use Rattle.co_bfv.specs.Ciphertexts.{Ciphertext}
use Rattle.co_bfv.specs.Draws.{encryption_draw}
use Rattle.co_bucket.specs.Bytes.{record_row}
use Rattle.co_matvec.specs.Weights.{keyword_slot}
use Rattle.co_matvec.specs.Replies.{HasSlots}
use Rattle.co_matvec.proofs.Only.{polynomial_only}
use Rattle.co_wire.specs.Bodies.{cipher_bytes, ciphers_bytes}
use Rattle.co_rounds.specs.Asked.{encryptions_draw, row_message, AreKeywordMessages}
use Rattle.co_client.specs.Rounds.{record_messages}

-- one more message
encryptions-more : (secret : List ℤ) (ms : List (List ℕ)) (m : List ℕ) (s : Stream) → encryptions_draw secret (ms ++ m ∷ []) s
    ≡ ((encryptions_draw secret ms s).0 ++ (encryption_draw secret m (encryptions_draw secret ms s).1).0 ∷ [], (encryption_draw secret m (encryptions_draw secret ms s).1).1)
unfolding encryptions_draw
encryptions-more secret [] m s = refl
encryptions-more secret (x ∷ xs) m s =
    let one = encryption_draw secret x s in
    ap (λ (p : List Ciphertext × Stream). (one.0 ∷ p.0, p.1)) (encryptions-more secret xs m one.1)

-- the body spells the encryptions of these messages, and this is left of the stream
pub record IsDrawn (secret : List ℤ) (ms : List (List ℕ)) (s : Stream) (body : List ℕ) (rest : Stream) : Type 0 where
  pub spelled : body ≡ ciphers_bytes (encryptions_draw secret ms s).0
  pub left : rest ≡ (encryptions_draw secret ms s).1

pub none-drawn : (secret : List ℤ) (s : Stream) (body : List ℕ) (rest : Stream) → body ≡ [] → rest ≡ s → IsDrawn secret [] s body rest
unfolding encryptions_draw
none-drawn secret s body rest e f = record { spelled = e; left = f }

pub one-drawn : (secret : List ℤ) (ms : List (List ℕ)) (m : List ℕ) (s : Stream) (body next : List ℕ) (rest last : Stream) → IsDrawn secret ms s body rest
    → next ≡ body ++ cipher_bytes (encryption_draw secret m rest).0 → last ≡ (encryption_draw secret m rest).1 → IsDrawn secret (ms ++ m ∷ []) s next last
one-drawn secret ms m s body next rest last h e f =
    let before = encryptions_draw secret ms s in
    let more = encryptions-more secret ms m s in
    record {
      spelled = e ∙ (λ t. h.spelled t ++ cipher_bytes (encryption_draw secret m (h.left t)).0) ∙ flat_map_more cipher_bytes [] before.0 (encryption_draw secret m before.1).0
          ∙ ap (λ (p : List Ciphertext × Stream). ciphers_bytes p.0) (sym more);
      left = f ∙ ap (λ (r : Stream). (encryption_draw secret m r).1) h.left ∙ ap (λ (p : List Ciphertext × Stream). p.1) (sym more);
    }

-- the one message of a body
pub query-drawn : (secret : List ℤ) (m : List ℕ) (s : Stream) (body next : List ℕ) (last : Stream) → body ≡ []
    → next ≡ body ++ cipher_bytes (encryption_draw secret m s).0 → last ≡ (encryption_draw secret m s).1 → IsDrawn secret (m ∷ []) s next last
query-drawn secret m s body next last none e f = one-drawn secret [] m s body next s last (none-drawn secret s body s none refl) e f

-- ---- queries for rows

pub rows-more : (s : Numbers) (places : List ℕ) (i : ℕ) → i < length places
    → record_messages s (map (record_row s.degree) (take i places)) ++ row_message s.degree s.rows (record_row s.degree (get_or places i 0)) ∷ [] ≡ record_messages s (map (record_row s.degree) (take (i + 1) places))
rows-more s places i l =
    sym (map_push (row_message s.degree s.rows) (map (record_row s.degree) (take i places)) (record_row s.degree (get_or places i 0)))
    ∙ ap (λ (xs : List ℕ). map (row_message s.degree s.rows) xs) (sym (map_push (record_row s.degree) (take i places) (get_or places i 0)) ∙ ap (λ (xs : List ℕ). map (record_row s.degree) xs) (sym (take_more places i 0 l)))

-- ---- queries for scores

-- the first messages for keywords are drawn
abbrev pub AreAsked : Numbers → List ℤ → List ℕ → ℕ → Stream → List ℕ → Stream → Type 0
AreAsked s secret keywords k stream body rest = (messages : List (List ℕ)) → AreKeywordMessages s keywords messages → IsDrawn secret (take k messages) stream body rest

pub none-asked : (s : Numbers) (secret : List ℤ) (keywords : List ℕ) (stream : Stream) (body : List ℕ) (rest : Stream) → body ≡ [] → rest ≡ stream → AreAsked s secret keywords 0 stream body rest
none-asked s secret keywords stream body rest e f messages h = none-drawn secret stream body rest e f

pub one-asked : (s : Numbers) (secret : List ℤ) (keywords : List ℕ) (k : ℕ) (m : List ℕ) (stream : Stream) (body next : List ℕ) (rest last : Stream) → IsDegree s.degree → HasSlots s.degree (keyword_slot s.degree keywords k) m
    → ((messages : List (List ℕ)) → AreKeywordMessages s keywords messages → k < length messages) → AreAsked s secret keywords k stream body rest
    → next ≡ body ++ cipher_bytes (encryption_draw secret m rest).0 → last ≡ (encryption_draw secret m rest).1 → AreAsked s secret keywords (k + 1) stream next last
one-asked s secret keywords k m stream body next rest last d slots within h e f messages are =
    let here = within messages are in
    let same = polynomial_only s.degree (keyword_slot s.degree keywords k) m (get_or messages k []) d slots (are.each k here) in
    subst (λ (ms : List (List ℕ)). IsDrawn secret ms stream next last) (ap (λ (x : List ℕ). take k messages ++ x ∷ []) same ∙ sym (take_more messages k [] here))
    (one-drawn secret (take k messages) m stream body next rest last (h messages are) e f)

pub all-asked : (s : Numbers) (secret : List ℤ) (keywords : List ℕ) (k : ℕ) (stream : Stream) (body : List ℕ) (rest : Stream) → AreAsked s secret keywords k stream body rest
    → (messages : List (List ℕ)) → AreKeywordMessages s keywords messages → length messages ≤ k → IsDrawn secret messages stream body rest
all-asked s secret keywords k stream body rest h messages are l = subst (λ (ms : List (List ℕ)). IsDrawn secret ms stream body rest) (take_all k messages l) (h messages are)
