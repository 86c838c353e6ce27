-- Demand 3, in its own order: "The fund covers 110% of the worst loss and hardly more." proofs/Demand3.antt says it of the program.
use Rattle.std.specs.Prelude.{◌≡◌, List, [], ◌∷◌, map, ℕ, ◌+◌, ◌-◌, ◌*◌, ◌^◌, ◌≤◌, ◌<◌, length, get_or, Result}
use Rattle.std.specs.List.{fold, AllByRecursion}
use Rattle.numbers.specs.Sums.{Σ}
use Rattle.numbers.specs.Fractions.{Fraction, ◌over◌, whole, Proper, ◌⊕◌, ◌⊗◌, ◌≼◌, ◌≺◌}
use Rattle.methodology.specs.declared.Opening.{Opening}
use Rattle.methodology.specs.declared.Refusal.{Refusal}
use Rattle.methodology.specs.Account.{members}
use Rattle.methodology.specs.Contribution.{highest, counted, exact_charge, allowance, shortfall}
use Rattle.methodology.specs.Refusals.{clear}
use Rattle.methodology.specs.Register.{Register, refusal, step, Answer, accepted, refused, refused_at, answer, buffer}
use Rattle.period.specs.declared.Accrued.{Accrued}
use Rattle.period.specs.declared.Period.{Period}
use Rattle.period.specs.Reading.{answer_of}
use Rattle.period.specs.Registered.{period_of}
use Rattle.demand3.specs.Made.{Asked, Returned, figures_of, Made, lent, call_of, MadeOn}

-- ---- each call

-- "a call is accepted exactly when document 01's register, kept from the calls alone, accepts it, and is otherwise refused by the same
-- number, with its index in rows 5 and 6", and in row 10 with the member's number: it "holds for 10's member number as for an index"
-- (document 02, Change 7). "Every figure that an accepted call returns or writes is document 01's, worked from that call's
-- arguments and the register as the call leaves it." So say `answer` and `buffer` in methodology's Register.antt, with the requests of
-- document 02 that are in. The period that comes back holds what the register holds, so that a refused call leaves it as it was (demand 1).
pub record Agrees (g : Register) (c : Made) : Type 0 where
  pub answer : c.answer ≡ answer g (call_of c.asked)
  pub buffer : c.after ≡ buffer g (call_of c.asked) (lent c.asked)
  pub period : c.period ≡ period_of (step g (call_of c.asked))

-- ---- an accepted closing

-- what a closing wrote of member m: three numbers a member, raw and funded first
abbrev pub raw_in : (out : List ℕ) → (m : ℕ) → ℕ
raw_in out m = get_or out (3 * (m - 1)) 0

abbrev pub funded_in : (out : List ℕ) → (m : ℕ) → ℕ
funded_in out m = get_or out (3 * (m - 1) + 1) 0

-- "let M be the highest Max EUL, worked from the accounts as document 01 defines it, of the days accepted since the last accepted opening"
abbrev pub highest_max : Register → ℕ
highest_max g = highest g.held g.days

-- the "exact charge (110% of M times the mean of its exact daily shares)"
abbrev pub exact_of : Register → (m : ℕ) → Fraction
exact_of g m = exact_charge g.held g.days m

-- g is the register as an accepted closing leaves it, out the buffer that the closing wrote. Fractions are compared by cross-multiplication,
-- which says nothing where a denominator is 0: `proper` and `allowed` say that none is.
pub record Covers (g : Register) (said : Answer) (out : List ℕ) : Type 0 where
  -- three numbers a member, and nothing else
  pub long : length out ≡ 3 * g.held.n
  -- "The closing returns this M", with D before it, the number of the days that count, and the total funded after it
  pub returns : said ≡ accepted (length (counted g.held g.days) ∷ highest_max g ∷ Σ (members g.held.n) (funded_in out) ∷ [])
  pub proper : (m : ℕ) → 1 ≤ m → m ≤ g.held.n → Proper (exact_of g m)
  pub allowed : Proper (allowance (highest_max g))
  -- "Each raw charge is at least the member's exact charge [..] and less than that plus" the allowance, "1 dollar plus 1.1M/10^15" (document
  -- 02, Change 6).
  pub at_least : (m : ℕ) → 1 ≤ m → m ≤ g.held.n → exact_of g m ≼ whole (raw_in out m)
  pub below : (m : ℕ) → 1 ≤ m → m ≤ g.held.n → whole (raw_in out m) ≺ exact_of g m ⊕ allowance (highest_max g)
  -- "All raw charges together are at least 110% of M and less than that plus n times the same allowance."
  pub all_at_least : (11 * highest_max g) over 10 ≼ whole (Σ (members g.held.n) (raw_in out))
  pub all_below : whole (Σ (members g.held.n) (raw_in out)) ≺ (11 * highest_max g) over 10 ⊕ whole g.held.n ⊗ allowance (highest_max g)
  -- "The funded contributions exceed the raw charges by exactly the sum of the shortfalls below HK$50,000,000."
  pub excess : Σ (members g.held.n) (funded_in out) ≡ Σ (members g.held.n) (raw_in out) + Σ (members g.held.n) (λ m. shortfall (raw_in out m))

-- what demand 3 adds "where the last call is an accepted closing of n members"
abbrev pub AtClosing : Register → Made → Type 0
AtClosing g c =
    (out : List ℕ) → c.asked ≡ Asked.closing out → refusal g (call_of c.asked) ≡ clear
    → Covers (step g (call_of c.asked)) c.answer c.after

-- ---- the list

-- Demand 3 of a list of calls, from register g on. It is said at every accepted closing, the last call's among them.
abbrev pub Holds : Register → List Made → Type 0
Holds g [] = Unit {0}
Holds g (c ∷ cs) = Agrees g c × AtClosing g c × Holds (step g (call_of c.asked)) cs

-- the register after a list of calls
abbrev pub register_after : Register → List Made → Register
register_after = fold (λ g c. step g (call_of c.asked))

-- What a caller keeps from the answers alone: `note` takes in what an accepted call returned, and a refused call changes nothing.
abbrev pub by_answer : {X : Type 0} → (note : Asked → (figures : List ℕ) → X → X) → Asked → Answer → X → X
by_answer note asked (accepted figures) x = note asked figures x
by_answer note asked (refused number) x = x
by_answer note asked (refused_at number index) x = x

abbrev pub from_answers : {X : Type 0} → (note : Asked → (figures : List ℕ) → X → X) → X → List Made → X
from_answers note = fold (λ x c. by_answer note c.asked c.answer x)

-- ---- that it is not about nothing

abbrev pub Fits64 : ℕ → Type 0
Fits64 x = x < 2 ^ 64

-- the numbers of an answer
abbrev pub numbers_in : Answer → List ℕ
numbers_in (accepted figures) = figures
numbers_in (refused number) = number ∷ []
numbers_in (refused_at number index) = number ∷ index ∷ []

-- What the program can hold: numbers of 64 bits, arrays of 32 places. An array, an opening, what days come to, and a period.
pub record NarrowList (l : List ℕ) : Type 0 where
  pub fit : AllByRecursion Fits64 l
  pub long : length l ≡ 32

pub record NarrowOpening (o : Opening) : Type 0 where
  pub n : Fits64 o.n
  pub k : Fits64 o.k
  pub groups : NarrowList o.groups
  pub firsts : NarrowList o.firsts
  pub lasts : NarrowList o.lasts

pub record NarrowAccrued (a : Accrued) : Type 0 where
  pub last : Fits64 a.last
  pub days : Fits64 a.days
  pub highest : Fits64 a.highest
  pub sums : NarrowList a.sums

pub record Narrow (p : Period) : Type 0 where
  pub held : NarrowOpening p.held
  pub accrued : NarrowAccrued p.accrued

-- A call that the program can make: it has an outcome with this answer, every number that it answers, or leaves in the period or the buffer,
-- fits 64 bits, where those do that the buffer had, and the buffer is as long as before.
pub record Fits (c : Made) : Type 0 where
  pub outcome : Result (Returned c.asked) Refusal
  pub of_outcome : c.answer ≡ answer_of (figures_of c.asked) outcome
  pub answer : AllByRecursion Fits64 (numbers_in c.answer)
  pub period : Narrow c.period
  pub buffer : AllByRecursion Fits64 (lent c.asked) → AllByRecursion Fits64 c.after
  pub long : length c.after ≡ length (lent c.asked)

-- calls with these arguments that can be made, from period p on
pub record CanBeMade (p : Period) (arguments : List Asked) : Type 0 where
  pub calls : List Made
  pub same : map (λ c. c.asked) calls ≡ arguments
  pub made : MadeOn p calls
  pub fits : AllByRecursion Fits calls
