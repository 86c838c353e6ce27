-- The line at the front of a text: what `report_from` reads next, where the lines before it are taken away.
use Rattle.std.specs.Prelude.{Bool, not, ◌&&◌, cond, List, ℕ, suc, ltb, eqb, length, take, drop}
use Rattle.std.specs.Prelude.{Option, None}
use Rattle.std.specs.List.{position_or_len}
use Rattle.methodology.specs.Text.{LF, bytes, same, bad_bytes}

-- the index of the first b, the text's length where there is none
abbrev pub index_of : (b : ℕ) → (text : List ℕ) → ℕ
index_of b s = position_or_len (λ x. eqb x b) s

-- whether there is a b, the part before the first, and the rest after it
abbrev pub has : (b : ℕ) → (text : List ℕ) → Bool
has b s = ltb (index_of b s) (length s)

abbrev pub before : (b : ℕ) → (text : List ℕ) → List ℕ
before b s = take (index_of b s) s

abbrev pub after : (b : ℕ) → (text : List ℕ) → List ℕ
after b s = drop (suc (index_of b s)) s

-- whether the line at the front is the end line
abbrev pub is_end : (text : List ℕ) → Bool
is_end s = has LF s && same (before LF s) (bytes "end")

-- what `reading` makes of the line: nothing where no LF ends it or its bytes are bad
unfoldable pub line_read : {A : Type 0} → (reading : List ℕ → Option A) → (text : List ℕ) → Option A
line_read reading s = cond (has LF s && not (bad_bytes (before LF s))) (reading (before LF s)) None
