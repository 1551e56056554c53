-- What a search draws: its keys are good for its secret, and each of its queries is fresh for what it asks.
use Rattle.std.proofs.Common.{◌≡◌, ℕ, zero, suc, ◌+◌, ◌<◌, ◌≤◌, refl, sym, ap, subst, ◌∙◌, arith, ℤ, List, [], ◌∷◌, length, get_or, map, replicate, All}
use Rattle.std.proofs.lemmas.List.{length-map, length-set, length-replicate, get_or-map}
use Rattle.std.proofs.lemmas.List.Elements.{All-head, All-tail, All-from_get_or}
use Rattle.rand_core.specs.Stream.{Stream}
use Rattle.co_math.specs.Parameters.{fresh_bound}
use Rattle.co_math.specs.Coefficients.{coefficients, signed_coefficients}
use Rattle.co_math.specs.Logarithms.{log2_up}
use Rattle.co_math.proofs.Residue_lists.{length-residues_of}
use Rattle.co_noise.specs.Shapes.{Numbers, HasRanges, levels, keyword_blocks}
use Rattle.co_noise.specs.Bounds.{HasRoom}
use Rattle.co_bfv.specs.Secrets.{IsSecret}
use Rattle.co_bfv.specs.Ciphertexts.{Ciphertext, IsCiphertext, ciphertext_degree, MeansWithin}
use Rattle.co_bfv.specs.Encryptions.{encrypted}
use Rattle.co_bfv.specs.Draws.{ternary_draw, coefficient_draw, secret_draw, uniform_draw, error_draw, encryption_draw}
use Rattle.co_bfv.specs.Totals.{no_ciphertext, ciphertext_at}
use Rattle.co_bfv.proofs.Drawn.{length-drawn, errors_small, secret-IsSecret, uniform-IsWhole}
use Rattle.co_bfv.proofs.Combined.{residues_whole}
use Rattle.co_bfv.proofs.Encrypted.{encrypted_means}
use Rattle.co_switch.specs.Keys.{AreGoodKeys}
use Rattle.co_switch.specs.Draws.{key_set_draw}
use Rattle.co_switch.proofs.Elements.{Half, half_of}
use Rattle.co_switch.proofs.Listing.{HasCounts, key_set_draw-AreKeys, key_set_draw-good, key_set_draw-counts}
use Rattle.co_pir.specs.Messages.{inverse_power}
use Rattle.co_wire.specs.Bodies.{keys_bytes, ciphers_bytes, AreCiphers, SpellsCiphers, AreKeysFor, SpellsKeys}
use Rattle.co_wire.proofs.Keyed.{few_levels}
use Rattle.co_rounds.specs.Asked.{Asked, IsAsked, asked_draw, encryptions_draw, row_message}
use Rattle.co_rounds.specs.Scoring.{AskScores}
use Rattle.co_rounds.specs.Recording.{AsksFor}

-- ---- encryptions

-- a fresh encryption of a message
pub record IsFresh (secret : List ℤ) (c : Ciphertext) (message : List ℕ) : Type 0 where
  pub cipher : IsCiphertext c
  pub degree : ciphertext_degree c ≡ length secret
  pub means : MeansWithin (signed_coefficients secret) c (coefficients message) fresh_bound

one_fresh : (secret : List ℤ) (message : List ℕ) (s : Stream) → IsSecret secret → length message ≡ length secret → IsFresh secret (encryption_draw secret message s).0 message
unfolding encryption_draw encrypted uniform_draw error_draw
one_fresh secret message s h long =
    let n = length secret in
    let a = uniform_draw n s in
    record {
      cipher = record {
        c0 = residues_whole n _ h.degree;
        c1 = uniform-IsWhole n s h.degree;
        one_degree = length-drawn coefficient_draw n s ∙ sym (length-residues_of _ n _);
      };
      degree = length-residues_of _ n _;
      means = encrypted_means secret message a.0 (error_draw n a.1).0 h long (errors_small n a.1);
    }

-- fresh encryptions of messages, one after another
pub record AreFresh (secret : List ℤ) (ms : List (List ℕ)) (cs : List Ciphertext) : Type 0 where
  pub count : length cs ≡ length ms
  pub each : (k : ℕ) → k < length ms → IsFresh secret (ciphertext_at cs k) (get_or ms k [])

first_or_later : (secret : List ℤ) (c : Ciphertext) (cs : List Ciphertext) (m : List ℕ) (ms : List (List ℕ)) → IsFresh secret c m → ((k : ℕ) → k < length ms → IsFresh secret (ciphertext_at cs k) (get_or ms k []))
    → (k : ℕ) → k < length (m ∷ ms) → IsFresh secret (ciphertext_at (c ∷ cs) k) (get_or (m ∷ ms) k [])
first_or_later secret c cs m ms h g zero l = h
first_or_later secret c cs m ms h g (suc k) l = g k (omega arith)

all_fresh : (secret : List ℤ) (ms : List (List ℕ)) (s : Stream) → IsSecret secret → All (λ m. length m ≡ length secret) ms → AreFresh secret ms (encryptions_draw secret ms s).0
unfolding encryptions_draw
all_fresh secret [] s h long = record { count = refl; each = λ k l. absurd (omega arith) }
all_fresh secret (m ∷ ms) s h long =
    let one = encryption_draw secret m s in
    let others = all_fresh secret ms one.1 h (All-tail (λ x. length x ≡ length secret) m ms long) in
    record {
      count = ap (λ (k : ℕ). suc k) others.count;
      each = first_or_later secret one.0 (encryptions_draw secret ms one.1).0 m ms (one_fresh secret m s h (All-head (λ x. length x ≡ length secret) m ms long)) others.each;
    }

-- they are ciphertexts of one degree
are_ciphers : (n : ℕ) (secret : List ℤ) (ms : List (List ℕ)) (cs : List Ciphertext) → length secret ≡ n → AreFresh secret ms cs → AreCiphers n (length ms) cs
are_ciphers n secret ms cs e h = record {
  count_is = h.count;
  ciphers = All-from_get_or IsCiphertext cs no_ciphertext (λ i u. (h.each i (omega (arith, u, h.count))).cipher);
  degrees = All-from_get_or (λ (c : Ciphertext). ciphertext_degree c ≡ n) cs no_ciphertext (λ i u. (h.each i (omega (arith, u, h.count))).degree ∙ e);
}

single : (cs : List Ciphertext) → length cs ≡ 1 → cs ≡ ciphertext_at cs 0 ∷ []
single [] e = absurd (omega arith)
single (c ∷ []) e = refl
single (c ∷ d ∷ cs) e = absurd (omega arith)

row-long : (n rows row : ℕ) → length (row_message n rows row) ≡ n
row-long n rows row = length-set (replicate n 0) row (inverse_power (log2_up rows)) ∙ length-replicate n 0

-- ---- the draws of a search

module _ (s : Numbers) (has : HasRanges s) (room : HasRoom s) (keywords rows : List ℕ) (bin : ℕ) (stream : Stream) (asked : Asked) (rest : Stream) (drawn : IsAsked s keywords rows bin stream asked rest) where
  abbrev secret : List ℤ
  secret = (secret_draw s.degree stream).0

  pub secret_is : IsSecret (secret_draw s.degree stream).0
  secret_is = secret-IsSecret s.degree stream has.degree

  pub secret_long : length (secret_draw s.degree stream).0 ≡ s.degree
  unfolding secret_draw
  secret_long = length-drawn ternary_draw s.degree stream

  -- ---- keys

  keys_are : (key_set_draw secret (levels s) (secret_draw s.degree stream).1).0 ≡ asked.keys
  unfolding asked_draw
  keys_are = ap (λ (p : Asked × Stream). p.0.keys) drawn.drawn

  half : Half (length secret)
  half = half_of (length secret) secret_is.degree

  few : levels s ≤ half.exponent + 1
  few = omega (arith, few_levels s (length secret) secret_long secret_is.degree room, half.log)

  keys_for : AreKeysFor s asked.keys
  keys_for =
      let start = (secret_draw s.degree stream).1 in
      let counts : HasCounts (length secret) (levels s) (key_set_draw secret (levels s) start).0 = key_set_draw-counts secret secret_is.degree (levels s) half few start in
      subst (AreKeysFor s) keys_are (record { set = key_set_draw-AreKeys secret secret_is.degree (levels s) half few start; degree = counts.degree ∙ secret_long; level_count = counts.expansions })

  pub keys_spelled : SpellsKeys s asked.keys (keys_bytes asked.keys)
  keys_spelled = record { keys_for = keys_for; spelled = refl }

  pub keys_good : AreGoodKeys (signed_coefficients (secret_draw s.degree stream).0) asked.keys
  keys_good = subst (AreGoodKeys (signed_coefficients secret)) keys_are (key_set_draw-good secret secret_is.degree (levels s) half few (secret_draw s.degree stream).1)

  -- ---- the query for scores

  scores_fresh : AreFresh secret drawn.messages asked.scores
  unfolding asked_draw
  scores_fresh =
      let keys = key_set_draw secret (levels s) (secret_draw s.degree stream).1 in
      subst (AreFresh secret drawn.messages) (ap (λ (p : Asked × Stream). p.0.scores) drawn.drawn)
      (all_fresh secret drawn.messages keys.1 secret_is (All-from_get_or (λ (m : List ℕ). length m ≡ length secret) drawn.messages [] (λ k u. (drawn.spelled.each k u).len ∙ sym secret_long)))

  pub scores_spelled : SpellsCiphers s.degree (keyword_blocks s) asked.scores (ciphers_bytes asked.scores)
  scores_spelled = record {
    ciphers = subst (λ (k : ℕ). AreCiphers s.degree k asked.scores) drawn.spelled.count (are_ciphers s.degree secret drawn.messages asked.scores secret_long scores_fresh);
    spelled = refl;
  }

  pub scores_asked : AskScores s.degree (secret_draw s.degree stream).0 keywords asked.scores
  scores_asked k u =
      let low : k < length drawn.messages = omega (arith, u, scores_fresh.count) in
      record { message = get_or drawn.messages k []; spelled = drawn.spelled.each k low; means = (scores_fresh.each k low).means }

  -- ---- the queries for records

  records_fresh : AreFresh secret (map (row_message s.degree s.rows) rows) asked.records
  unfolding asked_draw
  records_fresh =
      let keys = key_set_draw secret (levels s) (secret_draw s.degree stream).1 in
      let scores = encryptions_draw secret drawn.messages keys.1 in
      subst (AreFresh secret (map (row_message s.degree s.rows) rows)) (ap (λ (p : Asked × Stream). p.0.records) drawn.drawn)
      (all_fresh secret (map (row_message s.degree s.rows) rows) scores.1 secret_is
      (All-from_get_or (λ (m : List ℕ). length m ≡ length secret) (map (row_message s.degree s.rows) rows) []
      (λ k u. ap length (get_or-map (row_message s.degree s.rows) rows k 0 [] (omega (arith, u, length-map rows (row_message s.degree s.rows)))) ∙ row-long s.degree s.rows (get_or rows k 0) ∙ sym secret_long)))

  pub records_spelled : SpellsCiphers s.degree (length rows) asked.records (ciphers_bytes asked.records)
  records_spelled = record {
    ciphers = subst (λ (k : ℕ). AreCiphers s.degree k asked.records) (length-map rows (row_message s.degree s.rows))
        (are_ciphers s.degree secret (map (row_message s.degree s.rows) rows) asked.records secret_long records_fresh);
    spelled = refl;
  }

  pub records_asked : (bucket row : ℕ) → bucket < length rows → get_or rows bucket 0 ≡ row → row < s.rows → AsksFor s.degree (secret_draw s.degree stream).0 (ciphertext_at asked.records bucket) s.rows row
  records_asked bucket row l is within =
      let low : bucket < length (map (row_message s.degree s.rows) rows) = omega (arith, l, length-map rows (row_message s.degree s.rows)) in
      let h = records_fresh.each bucket low in
      record {
        cipher = h.cipher;
        degree = h.degree ∙ secret_long;
        within = within;
        fresh = subst (λ (m : List ℕ). MeansWithin (signed_coefficients secret) (ciphertext_at asked.records bucket) (coefficients m) fresh_bound)
            (get_or-map (row_message s.degree s.rows) rows bucket 0 [] l ∙ ap (row_message s.degree s.rows) is) h.means;
      }

  -- ---- the query for a bin

  document_fresh : AreFresh secret (row_message s.degree s.bins bin ∷ []) asked.document
  unfolding asked_draw
  document_fresh =
      let keys = key_set_draw secret (levels s) (secret_draw s.degree stream).1 in
      let scores = encryptions_draw secret drawn.messages keys.1 in
      let records = encryptions_draw secret (map (row_message s.degree s.rows) rows) scores.1 in
      subst (AreFresh secret (row_message s.degree s.bins bin ∷ [])) (ap (λ (p : Asked × Stream). p.0.document) drawn.drawn)
      (all_fresh secret (row_message s.degree s.bins bin ∷ []) records.1 secret_is (alone (row_message s.degree s.bins bin) (row-long s.degree s.bins bin ∙ sym secret_long)))
    where
      alone : (m : List ℕ) → length m ≡ length secret → All (λ x. length x ≡ length secret) (m ∷ [])
      alone m e zero d u = e
      alone m e (suc k) d u = absurd (omega arith)

  pub document_spelled : SpellsCiphers s.degree 1 (ciphertext_at asked.document 0 ∷ []) (ciphers_bytes asked.document)
  document_spelled =
      let is : asked.document ≡ ciphertext_at asked.document 0 ∷ [] = single asked.document document_fresh.count in
      record {
        ciphers = subst (λ (cs : List Ciphertext). AreCiphers s.degree 1 cs) is (are_ciphers s.degree secret (row_message s.degree s.bins bin ∷ []) asked.document secret_long document_fresh);
        spelled = ap ciphers_bytes is;
      }

  pub document_asked : bin < s.bins → AsksFor s.degree (secret_draw s.degree stream).0 (ciphertext_at asked.document 0) s.bins bin
  document_asked within =
      let h = document_fresh.each 0 (omega arith) in
      record { cipher = h.cipher; degree = h.degree ∙ secret_long; within = within; fresh = h.means }
