-- A line's fields, read one after another from the text where they stand: neither the line nor a field is cut out first.
use Rattle.std.specs.Prelude.{◌≡◌, ℕ, zero, suc, ◌+◌, ◌^◌, ◌<◌, ◌≤◌, Bool, true, false, cond, not, ◌||◌, ◌⊎◌, List, [], length, take, drop, ℤ, pos, ◌==◌, eqb, nat_lt, slice_index, MatchOption}
use Rattle.std.specs.Prelude.{Option, None, Some}
use Rattle.std.specs.List.{list_any, position_or_len}
use Rattle.std.specs.Option.{option_eq}
use Rattle.std.specs.Borrow.{Bor}
use Rattle.methodology.specs.Text.{tab, LF, is_digit, value_from, number_of, signed_of, kind_of, also}

-- ---- the field at the front of a text

-- a field ends at a tab or an LF
abbrev pub stops : ℕ → Bool
stops b = b == tab || b == LF

-- a byte of it that is no digit
abbrev pub not_digit : ℕ → Bool
not_digit b = not (is_digit b)

-- how many bytes it has
abbrev pub size : List ℕ → ℕ
size s = position_or_len stops s

abbrev pub front : List ℕ → List ℕ
front s = take (size s) s

-- the byte that ends it, 0 where nothing does, and what follows that byte
abbrev pub ender : List ℕ → ℕ
ender s = slice_index s (size s)

abbrev pub past : List ℕ → List ℕ
past s = drop (size s + 1) s

-- What a reader of the field answers: its value, and what follows it; or nothing, where there is no value.
abbrev pub Reads : {A : Type 0} → (value : Option A) → (text : List ℕ) → Option (A × Bor (List ℕ)) → Type 0
Reads value s result = MatchOption result (value ≡ None) (λ r. (value ≡ Some r.0) × (r.1.now ≡ past s))

-- ---- its digits

-- A reader is at index i of a text, where the digits before i make v: the field's value, whether a byte of it is no digit, and how many
-- bytes it has are those of what is left of it.
pub record Run (s : List ℕ) (i v : ℕ) : Type 0 where
  pub within : i ≤ length s
  pub few : i ≤ 13
  pub small : v < 10 ^ i
  pub value : value_from 0 (front s) ≡ value_from v (front (drop i s))
  pub odds : list_any not_digit (front s) ≡ list_any not_digit (front (drop i s))
  pub counts : size s ≡ i + size (drop i s)

-- its digits are over at index i: it has read `most`, or the byte there is none
abbrev pub Over : (s : List ℕ) → (most i : ℕ) → Type 0
Over s most i = (i ≡ most) ⊎ (is_digit (slice_index s i) ≡ false)

-- ---- its value

-- the number that it is, if the byte `end` ends it
unfoldable pub number_at : (end : ℕ) → List ℕ → Option ℕ
number_at end s = cond (ender s == end) (number_of (front s)) None

-- the kind's number, if the field is ASCII, or the signed number
unfoldable pub value_of : (lettered : Bool) → (field : List ℕ) → Option ℤ
value_of true f = cond (list_any (nat_lt 127) f) None (Some (pos (kind_of f)))
value_of false f = signed_of f

unfoldable pub value_at : (lettered : Bool) → (end : ℕ) → List ℕ → Option ℤ
value_at lettered end s = cond (ender s == end) (value_of lettered (front s)) None

-- ---- the fields up to the line's end

-- the byte that ends a field after which `left` more are due
unfoldable pub due : (left : ℕ) → ℕ
due zero = LF
due (suc left) = tab

-- the values of n fields, from field j on: the one in `kind_place` is a kind, the others are signed numbers
unfoldable pub row_at : (kind_place : Option ℕ) → (j n : ℕ) → List ℕ → Option (List ℤ)
row_at kind_place j zero s = Some []
row_at kind_place j (suc n) s = also (value_at (option_eq eqb (Some j) kind_place) (due n) s) (row_at kind_place (suc j) n (past s))

-- what follows n fields
unfoldable pub past_row : (n : ℕ) → List ℕ → List ℕ
past_row zero s = s
past_row (suc n) s = past_row n (past s)

-- What the reader of a row of n fields answers: what follows them, and their values stand in the row; or nothing, where they have none.
abbrev pub RowReads : (values : Option (List ℤ)) → (n : ℕ) → (text : List ℕ) → (row : List ℤ) → Option (Bor (List ℕ)) → Type 0
RowReads values n s row result = MatchOption result (values ≡ None) (λ rest. (values ≡ Some row) × (rest.now ≡ past_row n s))
