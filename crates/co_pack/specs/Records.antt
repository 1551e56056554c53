-- The 256 bytes of a record, and the record or the first fault that bytes are read as.
use Rattle.std.specs.Prelude.{◌+◌, ◌-◌, ◌<◌, ◌^◌, ◌==◌, ◌&&◌, ℕ, Bool, not, nat_lt, List, [], ◌∷◌, ◌++◌, length, take, drop, replicate, slice_index, Option, Some, None, Result, Ok, Err, if◌then◌else◌}
use Rattle.std.specs.List.{list_all, position}
use Rattle.std.specs.Int.{w32, to_be_bytes, from_be_bytes}
use Rattle.std.specs.Str.{is_utf8}
use Rattle.co_text.specs.Titles.{IsTitle, is_plain}
use Rattle.co_text.specs.declared.limits.TheConstants.{LONGEST_TITLE}
use Rattle.co_pack.specs.declared.packing.Place.{Place}
use Rattle.co_pack.specs.declared.records.Record.{Record}
use Rattle.co_pack.specs.declared.records.TheConstants.{TITLE_LENGTH_AT, TITLE_AT, TITLE_ROOM}

-- ---- from a record to its bytes

-- the title behind its length, with zeros to the end
unfoldable pub title_bytes : List ℕ → List ℕ
title_bytes title = (length title ∷ []) ++ (title ++ replicate (TITLE_ROOM - length title) 0)

-- document, bin, offset and length, four bytes each, the highest first, and the title
unfoldable pub record_bytes : ℕ → Place → List ℕ → List ℕ
record_bytes document place title =
    to_be_bytes w32 document ++ (to_be_bytes w32 place.bin
    ++ (to_be_bytes w32 place.offset ++ (to_be_bytes w32 place.length ++ title_bytes title)))

-- numbers of four bytes, and a title
pub record IsRecord (r : Record) : Type 0 where
  pub document : r.document < 2 ^ 32
  pub bin : r.place.bin < 2 ^ 32
  pub offset : r.place.offset < 2 ^ 32
  pub long : r.place.length < 2 ^ 32
  pub titled : IsTitle r.title

-- ---- from bytes to a record

-- the number that the four bytes at a place spell, the highest first
abbrev pub number_at : ℕ → List ℕ → ℕ
number_at at bytes = from_be_bytes w32 (take 4 (drop at bytes))

-- the length that stands before the title
abbrev pub title_length : List ℕ → ℕ
title_length bytes = slice_index bytes TITLE_LENGTH_AT

-- the bytes of the title
abbrev pub title_text : List ℕ → List ℕ
title_text bytes = take (title_length bytes) (drop TITLE_AT bytes)

-- the bytes behind the title
abbrev pub behind_title : List ℕ → List ℕ
behind_title bytes = drop (title_length bytes) (drop TITLE_AT bytes)

-- UTF-8 with no control character of ASCII
abbrev pub is_text : List ℕ → Bool
is_text bytes = is_utf8 bytes && list_all is_plain bytes

-- a byte that is not zero
abbrev pub is_set : ℕ → Bool
is_set byte = not (byte == 0)

-- the title, or the place of the first byte behind it that is not zero
abbrev pub padded : List ℕ → ℕ → Option ℕ → Result (List ℕ) ℕ
padded title end None = Ok title
padded title end (Some k) = Err (end + k)

-- the title in the bytes of a record, or the place of the first fault: its length, its text, the
-- zeros behind it
unfoldable pub title_within : List ℕ → Result (List ℕ) ℕ
title_within bytes =
    if nat_lt LONGEST_TITLE (title_length bytes) then Err TITLE_LENGTH_AT
    else if is_text (title_text bytes)
    then padded (title_text bytes) (TITLE_AT + title_length bytes)
    (position is_set (behind_title bytes))
    else Err TITLE_AT

-- the record that bytes with this title are
abbrev pub with_title : List ℕ → Result (List ℕ) ℕ → Result Record ℕ
with_title bytes (Err place) = Err place
with_title bytes (Ok title) = Ok (record {
  document = number_at 0 bytes;
  place =
      record { bin = number_at 4 bytes; offset = number_at 8 bytes; length = number_at 12 bytes };
  title = title;
})

-- the record that 256 bytes are, or the place of the first fault
unfoldable pub record_of : List ℕ → Result Record ℕ
record_of bytes = with_title bytes (title_within bytes)
