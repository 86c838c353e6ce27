-- What a refusal table can say: a row's number is one that occurs, and an index, or row 10's member number, is at most 256, since rows 5 and 6
-- come after row 4 and row 10 after row 1.
use mathlib.Core.Path.{◌≡◌, refl}
use mathlib.Core.Bool.{Bool, true, false, not, ◌||◌, cond}
use mathlib.Core.List.{List, [], ◌∷◌}
use Prim.Native.Nat.{ℕ, suc, ◌+◌, ◌*◌, ◌≤◌}
use native.Mathlib.Omega.{arith}
use lib.Dec.{eqb}
use lib.ListN.{length}
use borrow.Author.Tests.{not-true}
use Rattle.std.proofs.lemmas.Bool.Decides.{nat_tests}
use Rattle.std.proofs.lemmas.List.Sums.{prefix_len-le-length}
use Rattle.numbers.proofs.Tests.{neither}
use Rattle.methodology.specs.declared.Heading.{Heading}
use Rattle.methodology.specs.declared.Status.{Status}
use Rattle.methodology.specs.declared.Refusal.{Refusal}
use Rattle.methodology.specs.declared.Refusal.TheVariants.{BadOpening, OutOfTurn, BadDayNumber, BadLengths, BadHeading, BadAmount, BadLine, BadPresence}
use Rattle.std.specs.Prelude.{Option, Some, None, Ok, Err}
use Rattle.std.proofs.lemmas.List.FromFn.{length-range_with_len, length-map-range_with_len}
use Rattle.methodology.specs.declared.Opening.{Opening}
use Rattle.methodology.specs.Account.{members, first_day, last_day, DayInput, accounts, nobody}
use Rattle.methodology.specs.RowNumbers.{row_number, row_index}
use Rattle.methodology.specs.Refusals.{Verdict, clear, row◌when◌else◌, outside, count_outside, bad_opening, bad_presence, opening_rows, opening_refusal, bad_input, bad_heading, first_bad_heading, bad_amount, account_rows, day_rows, day_refusal, closing_refusal}
use Rattle.methodology.specs.Register.{Call, Register, last_number, refusal}
use Rattle.methodology.proofs.Passed.{inside}

-- the numbers that occur: 1 to 10, as document 01's table has them with that of Change 7, but for 7 and 8, which document 02's Changes 4 and 2
-- take away
abbrev pub occurs : (number : ℕ) → Bool
occurs number = not (outside 1 10 number || eqb number 7 || eqb number 8)

pub at_most_10 : (number : ℕ) → occurs number ≡ true → number ≤ 10
at_most_10 number h =
    let (but_8, _) = neither _ (eqb number 8) (not-true _ h) in
    (inside 1 10 number (neither (outside 1 10 number) (eqb number 7) but_8).0).1

pub row_occurs : (met : Refusal) → occurs (row_number met) ≡ true
row_occurs BadOpening = refl
row_occurs OutOfTurn = refl
row_occurs BadDayNumber = refl
row_occurs BadLengths = refl
row_occurs (BadHeading index) = refl
row_occurs (BadAmount index) = refl
row_occurs BadLine = refl
row_occurs (BadPresence member) = refl

-- an index, where there is one, is at most 256
abbrev pub Few : (index : Option ℕ) → Type 0
Few None = Unit {0}
Few (Some index) = index ≤ 256

abbrev pub RowFew : Verdict → Type 0
RowFew (Ok _) = Unit {0}
RowFew (Err met) = Few (row_index met)

-- ---- an index

pub bad_heading_le : (o : Opening) (number : ℕ) (prev : Heading) (hs : List Heading) → first_bad_heading o number prev hs ≤ length hs
unfolding first_bad_heading
bad_heading_le o number prev [] = omega arith
bad_heading_le o number prev (h ∷ hs) = by (bad_heading o number prev h) (bad_heading_le o number h hs)
  where
    by : (t : Bool) → first_bad_heading o number h hs ≤ length hs → cond t 0 (suc (first_bad_heading o number h hs)) ≤ suc (length hs)
    by true l = omega arith
    by false l = omega arith

-- a day has as many accounts as headings
pub accounts_long : (k : ℕ) (d : DayInput) → length (accounts k d) ≡ length d.headings
unfolding accounts
accounts_long k d = length-map-range_with_len _ 0 (length d.headings)

-- ---- a row

when_few : (met : Refusal) (b : Bool) (rest : Verdict) → Few (row_index met) → (b ≡ false → RowFew rest) → RowFew (row met when b else rest)
unfolding row◌when◌else◌
when_few met true rest h f = h
when_few met false rest h f = f refl

-- ---- the tables

members_few : (o : Opening) → bad_opening o ≡ false → o.n ≤ 32
unfolding bad_opening
members_few o e = grind (arith, nat_tests)

-- a bad member has a number up to n
pub opening_rows_few : (o : Opening) → RowFew (opening_rows o)
unfolding opening_rows
opening_rows_few o =
    when_few BadOpening _ _ tt
    (λ e. when_few (BadPresence _) _ clear
    (omega (
      arith,
      members_few o e,
      prefix_len-le-length (λ m. not (bad_presence (first_day o m) (last_day o m))) (members o.n),
      length-range_with_len 1 o.n,
    ))
    (λ f. tt))

pub opening_few : (s : Status) (o : Opening) → RowFew (opening_refusal s o)
unfolding opening_refusal
opening_few s o = when_few OutOfTurn _ _ tt (λ e. opening_rows_few o)

count_few : (o : Opening) (d : DayInput) → bad_input o d ≡ false → length d.headings ≤ 256
count_few o d e =
    let count = length d.headings in
    let (e3, _) = neither _ (not (eqb (length d.extras) count)) e in
    let (e2, _) = neither _ (not (eqb (length d.margins) count)) e3 in
    let (e1, _) = neither (count_outside count) (not (eqb (length d.npvs) (count * (o.k + 1)))) e2 in
    (inside 1 256 count e1).1

account_rows_few : (o : Opening) (d : DayInput) → length d.headings ≤ 256 → RowFew (account_rows o d)
unfolding account_rows
account_rows_few o d few =
    when_few (BadHeading _) _ _ (omega (arith, bad_heading_le o d.terms.number nobody d.headings))
    (λ e. when_few (BadAmount _) _ clear (omega (arith, prefix_len-le-length (λ a. not (bad_amount a)) (accounts o.k d), accounts_long o.k d)) (λ f. tt))

-- whichever of rows 3 and 4 stands first
pub day_few : (s : Status) (o : Opening) (last : ℕ) (d : DayInput) (room : ℕ) → RowFew (day_refusal s o last d room)
unfolding day_refusal day_rows
day_few s o last d room =
    when_few _ _ _ tt
    (λ h. when_few _ _ _ tt
    (λ k. when_few _ _ _ tt
    (λ e. when_few _ _ _ tt
    (λ f. account_rows_few o d (grind (arith, count_few o d))))))

pub closing_few : (s : Status) (o : Opening) (room : ℕ) → RowFew (closing_refusal s o room)
unfolding closing_refusal
closing_few s o room =
    when_few OutOfTurn _ _ tt
    (λ e. when_few BadLengths _ clear tt (λ e. tt))

pub refusal_few : (g : Register) (c : Call) → RowFew (refusal g c)
unfolding refusal
refusal_few g (Call.opening o) = opening_few g.status o
refusal_few g (Call.day d room) = day_few g.status g.held (last_number g.days) d room
refusal_few g (Call.closing room) = closing_few g.status g.held room
