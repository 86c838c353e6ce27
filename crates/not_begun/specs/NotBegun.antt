-- Document 02, Change 2: "A closing with no accepted day now gives M 0, D 0, raw 0 and funded 50,000,000 for every member." `NotBegun` is the
-- claim. That "the bound on the fund keeps its form" demand 3 says: `Covers` holds at every accepted closing, with days or without.
use Rattle.std.specs.Prelude.{◌≡◌, cond, ℕ, ◌+◌, ◌*◌, ◌<◌, length, get_or, take}
use mathlib.Core.List.{List, [], ◌∷◌, ◌++◌, map, flat_map}
use seplogic.Ra.Ura.{Ura}
use base.Logic.{SProp}
use prog.Memory.{Memory}
use prog.Routine.{Routine}
use types.Logic.{Logic}
use contract.Monad.{Fun}
use Rattle.numbers.specs.Fractions.{◌over◌}
use Rattle.methodology.specs.declared.Status.TheVariants.{Open, Closed}
use Rattle.methodology.specs.declared.Refusal.TheVariants.{BadLine}
use Rattle.methodology.specs.declared.Opening.{Opening}
use Rattle.methodology.specs.Account.{members, first_day, last_day}
use Rattle.methodology.specs.Day.{group_number}
use Rattle.methodology.specs.Contribution.{highest, counts, raw, exact_charge}
use Rattle.methodology.specs.Refusals.{clear, opening_rows}
use Rattle.methodology.specs.Register.{Call, Register, start, refusal, step, Answer, accepted, answer, buffer}
use Rattle.methodology.specs.Text.{bytes, printed, refused_line, report_of}
use Rattle.period.specs.Registered.{period_of}
use Rattle.period.specs.Calls.{fresh_period}
use Rattle.demand3.specs.Made.{Asked, Made, MadeOn}
use Rattle.demand3.specs.Demand3.{register_after, from_answers}
use Rattle.demand3.proofs.Demand3.{Called, made_of, FromFresh}

-- ---- a closing

-- "no accepted day": a period that is open, with no day since its opening
pub record NoAcceptedDay (g : Register) : Type 0 where
  pub opened : g.status ≡ Open
  pub none : g.days ≡ []

-- what a closing then answers and writes, of n members: "M 0, D 0, raw 0 and funded 50,000,000 for every member", and the unfunded twice that
pub record AsNotBegun (n : ℕ) (said : Answer) (out : List ℕ) : Type 0 where
  pub says : said ≡ accepted (0 ∷ 0 ∷ n * 50000000 ∷ [])
  pub writes : out ≡ flat_map (λ m. 0 ∷ 50000000 ∷ 100000000 ∷ []) (members n)

-- the register after it: closed, and otherwise as before
abbrev pub closed_from : Register → Register
closed_from g = record { status = Closed; held = g.held; days = [] }

-- a closing that was made where the calls before it have come to register g
pub record ClosedAt (g : Register) (c : Made) : Type 0 where
  pub as_not_begun : AsNotBegun g.held.n c.answer c.after
  pub leaves : c.period ≡ period_of (closed_from g)

-- ---- D

-- D as a caller counts it from answers alone: 0 after an accepted opening, and 1 more after each accepted day that counts, by the T that it
-- returned (Change 4)
abbrev pub after_accepted : Asked → (figures : List ℕ) → (D : ℕ) → ℕ
after_accepted (Asked.opening o) figures D = 0
after_accepted (Asked.day d out) figures D = cond (counts (get_or figures 0 0)) (D + 1) D
after_accepted (Asked.closing out) figures D = D

abbrev pub days_answered : List Made → ℕ
days_answered cs = from_answers after_accepted 0 cs

-- ---- a text

-- period and members, and then end
abbrev pub opening_lines : Opening → List ℕ
opening_lines o =
    printed (bytes "period") (o.n ∷ o.k ∷ [])
    ++ flat_map (λ m. printed (bytes "member") (m ∷ group_number o m ∷ first_day o m ∷ last_day o m ∷ [])) (members o.n)

abbrev pub text_of : Opening → List ℕ
text_of o = opening_lines o ++ printed (bytes "end") []

-- `fund 0 0 ..` and the contributions
abbrev pub fund_of : (n : ℕ) → List ℕ
fund_of n =
    printed (bytes "fund") (0 ∷ 0 ∷ n * 50000000 ∷ []) ++ flat_map (λ m. printed (bytes "contribution") (m ∷ 0 ∷ 50000000 ∷ 100000000 ∷ [])) (members n)

-- ---- Change 2

pub record NotBegun : Type 2 where
  -- "M 0", "raw 0", and "with every exact charge 0 in such a period"
  pub m_is : (o : Opening) → highest o [] ≡ 0
  pub raw_is : (o : Opening) (m : ℕ) → raw o [] m ≡ 0
  pub exact_is : (o : Opening) (m : ℕ) → exact_charge o [] m ≡ 0 over 1
  -- the register, whatever it holds: such a closing is accepted
  pub closes : (g : Register) (before : List ℕ) → NoAcceptedDay g → length before ≡ 3 * g.held.n
      → let call = Call.closing (length before) in
      AsNotBegun g.held.n (answer g call) (buffer g call before) × (step g call ≡ closed_from g)
  -- every list of calls that comes to such a register, with refused days in it or a month before its opening
  pub every_list : (cs : List Made) (c : Made) (out : List ℕ) → MadeOn fresh_period (cs ++ (c ∷ [])) → c.asked ≡ Asked.closing out
      → let g = register_after start cs in
      NoAcceptedDay g → length out ≡ 3 * g.held.n → ClosedAt g c
  -- so an opening that is accepted after any calls, and the closing next: nothing is left of what came before
  pub at_once : (cs : List Made) (a c : Made) (o : Opening) (out : List ℕ) → MadeOn fresh_period (cs ++ (a ∷ c ∷ []))
      → a.asked ≡ Asked.opening o → refusal (register_after start cs) (Call.opening o) ≡ clear
      → c.asked ≡ Asked.closing out → length out ≡ 3 * o.n
      → AsNotBegun o.n c.answer c.after
  -- and every list of compiled calls, as demand 3 has them
  pub compiled_list :
      {M : Type 1} {𝓤 : Ura M} (𝓛 : Logic 𝓤) (mem : Memory → SProp 𝓤) (run : Routine → Fun 𝓤)
      (cs : List Called) (c : Called) (out : List ℕ) → FromFresh 𝓛 mem run (cs ++ (c ∷ [])) → (made_of c).asked ≡ Asked.closing out
      → let g = register_after start (map made_of cs) in
      NoAcceptedDay g → length out ≡ 3 * g.held.n → ClosedAt g (made_of c)
  -- "a day call that leaves the period alone now shows in D": the D of every closing counts the days that were answered as accepted, but
  -- for those without losses (Change 4)
  pub d_shows : (cs : List Made) (c : Made) (out figures : List ℕ) → MadeOn fresh_period (cs ++ (c ∷ [])) → c.asked ≡ Asked.closing out
      → c.answer ≡ accepted figures → take 1 figures ≡ days_answered cs ∷ []
  -- every text of period, members and end; with anything after it the next line is refused by 9, "before the closing call", as in any month
  pub report : (o : Opening) → opening_rows o ≡ clear → report_of (text_of o) ≡ fund_of o.n
  pub report_after : (o : Opening) (rest : List ℕ) → opening_rows o ≡ clear → 0 < length rest → report_of (text_of o ++ rest) ≡ refused_line BadLine (o.n + 3)
