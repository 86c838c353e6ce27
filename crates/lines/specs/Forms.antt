-- What a line of the month's text holds, read as one row of signed numbers: document 01's forms of a line, in the terms of a reader that
-- takes its fields one after another.
use Rattle.std.specs.Prelude.{Bool, ◌&&◌, cond, List, [], ◌∷◌, ℕ, suc, eqb, ℤ, pos, length, get_or, drop}
use Rattle.std.specs.Prelude.{Option, None, Some}
use Rattle.std.specs.Int.Signed.{lt_z}
use Rattle.std.specs.Option.{option_eq}
use Rattle.std.specs.List.{list_any}
use Rattle.methodology.specs.Refusals.{outside}
use Rattle.methodology.specs.Text.{same, fields, also, AccountLine}
use Rattle.methodology.specs.Lines.{line_read}
use Rattle.fields.specs.Fields.{value_of}
use Rattle.lines.specs.declared.AccountTerms.{AccountTerms}

-- Whether a byte of a word is no lower-case letter. The words of a line have none such.
abbrev pub not_letters : List ℕ → Bool
not_letters word = list_any (outside 97 122) word

-- the values of fields from field j on: the one in `kind_place` is a kind, the others are signed numbers
unfoldable pub values_of : (kind_place : Option ℕ) → (j : ℕ) → List (List ℕ) → Option (List ℤ)
values_of kind_place j [] = Some []
values_of kind_place j (f ∷ fs) = also (value_of (option_eq eqb (Some j) kind_place) f) (values_of kind_place (suc j) fs)

-- the values of the n fields after a line's word
unfoldable pub row_after : (word : List ℕ) → (kind_place : Option ℕ) → (n : ℕ) → (line : List ℕ) → Option (List ℤ)
row_after word kind_place n line =
    cond (same (get_or (fields line) 0 []) word && eqb (length (fields line)) (suc n)) (values_of kind_place 0 (drop 1 (fields line))) None

-- those of the line at the front of a text
abbrev pub line_row : (word : List ℕ) → (kind_place : Option ℕ) → (n : ℕ) → (text : List ℕ) → Option (List ℤ)
line_row word kind_place n s = line_read (row_after word kind_place n) s

abbrev pub is_negative : ℤ → Bool
is_negative z = lt_z z (pos 0)

-- the NPVs of an account's row: its base, and then its stresses, which stand behind its extra
abbrev pub npvs_in : List ℤ → List ℤ
npvs_in values = get_or values 3 (pos 0) ∷ drop 6 values

-- an account with its NPVs, as document 01's form of a line has it
abbrev pub account_line : AccountTerms → (npvs : List ℤ) → AccountLine
account_line a npvs =
    record {
      member = a.heading.member;
      number = a.heading.number;
      kind = a.heading.kind;
      npvs = npvs;
      margin = a.margin;
      extra = a.extra;
    }
