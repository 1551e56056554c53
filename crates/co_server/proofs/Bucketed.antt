-- The tables of a library.
use Rattle.std.proofs.Common.{◌≡◌, ℕ, ◌*◌, ◌<◌, ◌≤◌, sym, ap, subst, ◌∙◌, arith, List, [], length, get_or, Result}
use Rattle.std.specs.Prelude.{IfOk}
use Rattle.std.proofs.lemmas.List.FromFn.{length-map-range_with_len}
use Rattle.co_bucket.specs.Lists.{bucket_count, listed, lists_of}
use Rattle.co_bucket.proofs.Standing.{list_at}
use Rattle.co_pir.specs.Tables.{Table, IsTable}
use Rattle.co_library.specs.Libraries.{Parts}
use Rattle.co_rounds.specs.Serving.{bucket_documents}

-- a table, by parts that are equal
abbrev pub table : ℕ → ℕ → ℕ → List ℕ → Table
table degree rows chunks bytes = record { degree = degree; rows = rows; chunks = chunks; bytes = bytes }

pub same_table : (t : Table) (n rows chunks : ℕ) (bytes : List ℕ) → n ≡ t.degree → rows ≡ t.rows → chunks ≡ t.chunks → bytes ≡ t.bytes → table n rows chunks bytes ≡ t
same_table t n rows chunks bytes a b c d = λ i. table (a i) (b i) (c i) (d i)

-- what is asked of the parts of a table
pub record IsRoomy (n rows chunks : ℕ) (bytes : List ℕ) : Type 0 where
  pub some : 1 ≤ rows
  pub few : rows ≤ n
  pub whole : length bytes ≡ rows * (chunks * (2 * n))

pub is_roomy : (t : Table) → IsTable t → (n rows chunks : ℕ) (bytes : List ℕ) → n ≡ t.degree → rows ≡ t.rows → chunks ≡ t.chunks → bytes ≡ t.bytes → IsRoomy n rows chunks bytes
is_roomy t h n rows chunks bytes a b c d = record {
  some = subst (λ (k : ℕ). 1 ≤ k) (sym b) h.some;
  few = omega (arith, h.few, a, b);
  whole = ap length d ∙ h.len ∙ (λ i. sym b i * (sym c i * (2 * sym a i)));
}

-- the list of a bucket
pub list_is : (l : Parts) (lists : List (List ℕ)) (bucket : ℕ) (list : List ℕ) → lists ≡ lists_of l.shape.salt (bucket_count l.shape.hits) l.shape.documents → bucket < bucket_count l.shape.hits → list ≡ get_or lists bucket []
    → list ≡ bucket_documents l.shape bucket
list_is l lists bucket list e b f = f ∙ ap (λ (ls : List (List ℕ)). get_or ls bucket []) e ∙ list_at l.shape.salt (bucket_count l.shape.hits) l.shape.documents bucket b

pub list_there : (l : Parts) (lists : List (List ℕ)) (bucket : ℕ) → lists ≡ lists_of l.shape.salt (bucket_count l.shape.hits) l.shape.documents → bucket < bucket_count l.shape.hits → bucket < length lists
list_there l lists bucket e b =
    subst (λ (k : ℕ). bucket < k) (sym (ap (λ (ls : List (List ℕ)). length ls) e ∙ length-map-range_with_len (listed l.shape.salt (bucket_count l.shape.hits) l.shape.documents) 0 (bucket_count l.shape.hits))) b

-- a result that is one value is an equal one
pub renamed : {X E : Type 0} (r : Result X E) (a b : X) → a ≡ b → IfOk r (λ t. t ≡ a) → IfOk r (λ t. t ≡ b)
renamed r a b e h = subst (λ x. IfOk r (λ t. t ≡ x)) e h
