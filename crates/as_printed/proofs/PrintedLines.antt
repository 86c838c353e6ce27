-- What is printed is read back: an LF ends each line, tabs part its fields, and these are its word and its numbers in decimal. `Shows` says
-- of bytes which lines they are, whatever follows them.
use mathlib.Core.Path.{◌≡◌, refl, sym, ap, subst, ◌∙◌}
use mathlib.Core.Bool.{false}
use mathlib.Core.List.{List, [], ◌∷◌, ◌++◌, map, flat_map, append-nil, append_assoc}
use Prim.Native.Nat.{ℕ, ◌<◌}
use native.Mathlib.Omega.{arith}
use lib.Dec.{eqb}
use borrow.Author.Tests.{eq-eqb, ne_eqb}
use Rattle.std.specs.List.{list_any, AllByRecursion}
use mathlib.Core.List.Memᴰ.{head as here}
use mathlib.Core.List.Memᴰ.{tail as there}
use Rattle.numbers.proofs.Lists.{◌∈◌, any_false, mem_every, every_weaken, every_append, every_flat_map}
use Rattle.methodology.specs.Text.{tab, LF, onto, split, fields, value_from, decimal, printed}
use Rattle.demand3.specs.Demand3.{Fits64}
use Rattle.as_printed.specs.AsPrinted.{Line, worded, line_of, lines_of, InDecimal}
use Rattle.as_printed.proofs.ReadBack.{Digit, reads_back, all_digits}

-- ---- parts

abbrev pub Without : (b : ℕ) → List ℕ → Type 0
Without b s = AllByRecursion (λ x. eqb x b ≡ false) s

ended : (b : ℕ) (s rest : List ℕ) → Without b s → split b (s ++ b ∷ rest) ≡ s ∷ split b rest
unfolding split onto
ended b [] rest h = rw (eq-eqb b b refl)
ended b (x ∷ s) rest h = rw (h.0, ended b s rest h.1)

unended : (b : ℕ) (s : List ℕ) → Without b s → split b s ≡ s ∷ []
unfolding split onto
unended b [] h = refl
unended b (x ∷ s) h = rw (h.0, unended b s h.1)

decimal_without : (b x : ℕ) → b < 48 → Without b (decimal x)
decimal_without b x h = every_weaken Digit _ (λ y d. ne_eqb y b (λ e. omega (arith, d.0))) (decimal x) (all_digits 19 x)

-- ---- a line

-- a word has neither tab nor LF
abbrev pub Word : List ℕ → Type 0
Word w = (list_any (λ x. eqb x tab) w ≡ false) × (list_any (λ x. eqb x LF) w ≡ false)

pub without : (b : ℕ) (w : List ℕ) → list_any (λ x. eqb x b) w ≡ false → Without b w
without b w e = mem_every _ w (λ x i. any_false (λ x. eqb x b) e i)

-- the fields after the word, and the line before its LF
abbrev pub tabbed : List ℕ → List ℕ
tabbed numbers = flat_map (λ x. tab ∷ decimal x) numbers

abbrev pub line_with : (word numbers : List ℕ) → List ℕ
line_with w numbers = w ++ tabbed numbers

pub line_fields_lem : (w numbers : List ℕ) → Without tab w → fields (line_with w numbers) ≡ w ∷ map decimal numbers
unfolding flat_map
line_fields_lem w [] h = rw append-nil (unended tab w h)
line_fields_lem w (x ∷ xs) h =
    ended tab w (line_with (decimal x) xs) h ∙ ap (λ (l : List (List ℕ)). w ∷ l) (line_fields_lem (decimal x) xs (decimal_without tab x (omega arith)))

pub line_ended : (w numbers rest : List ℕ) → Without LF w → split LF (printed w numbers ++ rest) ≡ line_with w numbers ∷ split LF rest
unfolding printed
line_ended w numbers rest h =
    let other : ℕ → Type 0 = λ x. eqb x LF ≡ false in
    let in_fields : Without LF (tabbed numbers) = every_flat_map other (λ x. tab ∷ decimal x) numbers (λ x i. (refl, decimal_without LF x (omega arith))) in
    let no_lf = every_append other w (tabbed numbers) h in_fields in
    let parted : printed w numbers ++ rest ≡ line_with w numbers ++ LF ∷ rest = rw append_assoc in
    ap (split LF) parted ∙ ended LF (line_with w numbers) rest no_lf

values_back : (numbers : List ℕ) → AllByRecursion Fits64 numbers → map (value_from 0) (map decimal numbers) ≡ numbers
values_back [] h = refl
values_back (x ∷ xs) h = rw (reads_back x (omega (arith, h.0)), values_back xs h.1)

module _ (w numbers : List ℕ) (word : Word w) (fit : AllByRecursion Fits64 numbers) where
  is_line : line_of (line_with w numbers) ≡ worded w numbers
  is_line = rw (line_fields_lem w numbers (without tab w word.0), values_back numbers fit)

  is_decimal : InDecimal (line_with w numbers)
  is_decimal =
      record {
        fields_are = line_fields_lem w numbers (without tab w word.0) ∙ ap (λ (l : Line). l.word ∷ map decimal l.numbers) (sym is_line);
        fit = subst (λ (l : Line). AllByRecursion Fits64 l.numbers) (sym is_line) fit;
      }

-- ---- several lines

-- the bytes s are these lines, whatever follows, and all of them are decimal
pub record Shows (s : List ℕ) (lines : List Line) : Type 0 where
  pub are : (rest : List ℕ) → lines_of (s ++ rest) ≡ lines ++ lines_of rest
  pub decimal_too : (rest : List ℕ) → AllByRecursion InDecimal (split LF rest) → AllByRecursion InDecimal (split LF (s ++ rest))

pub shows_line : (w numbers : List ℕ) → Word w → AllByRecursion Fits64 numbers → Shows (printed w numbers) (worded w numbers ∷ [])
shows_line w numbers word fit =
    let no_lf = without LF w word.1 in
    record {
      are = λ rest. rw (line_ended w numbers rest no_lf, is_line w numbers word fit);
      decimal_too = λ rest h. subst (AllByRecursion InDecimal) (sym (line_ended w numbers rest no_lf)) (is_decimal w numbers word fit, h);
    }

pub shows_then : {s t : List ℕ} {ls ms : List Line} → Shows s ls → Shows t ms → Shows (s ++ t) (ls ++ ms)
shows_then {s} {t} {ls} {ms} a b =
    record {
      are =
          λ rest.
          ap lines_of (append_assoc s t rest) ∙ a.are (t ++ rest) ∙ ap (λ (l : List Line). ls ++ l) (b.are rest)
          ∙ sym (append_assoc ls ms (lines_of rest));
      decimal_too = λ rest h. rw append_assoc (a.decimal_too (t ++ rest) (b.decimal_too rest h));
    }

-- a line for each x
pub shows_each : (w : List ℕ) (numbers : ℕ → List ℕ) (xs : List ℕ) → Word w → ((x : ℕ) → x ∈ xs → AllByRecursion Fits64 (numbers x))
    → Shows (flat_map (λ x. printed w (numbers x)) xs) (map (λ x. worded w (numbers x)) xs)
unfolding flat_map
shows_each w numbers [] word fit = record { are = λ rest. refl; decimal_too = λ rest h. h }
shows_each w numbers (x ∷ xs) word fit =
    shows_then (shows_line w (numbers x) word (fit x (here refl))) (shows_each w numbers xs word (λ y i. fit y (there i)))
