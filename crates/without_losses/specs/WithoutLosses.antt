-- Document 02, Change 4: "Such a day is now accepted: every member's e, share and cents are 0, T is 0, and the Max EUL of Change 3 is reported.
-- It is left out of D and of the mean. Its day number counts for the rising order. Where all days are like this, closing answers as in
-- Change 2; the bounds on charges rest on the remaining days. Number 7 no longer occurs." `WithoutLosses` is the claim. The bounds are demand
-- 3's, whose `Covers` goes by the days that count.
use Rattle.std.specs.Prelude.{◌≡◌, true, false, ℕ, ◌*◌, ◌≤◌, ◌<◌, length}
use Rattle.std.specs.List.{AllByRecursion}
use mathlib.Core.List.{List, [], ◌∷◌, ◌++◌, map, flat_map}
use seplogic.Ra.Ura.{Ura}
use base.Logic.{SProp}
use prog.Memory.{Memory}
use prog.Routine.{Routine}
use types.Logic.{Logic}
use contract.Monad.{Fun}
use Rattle.methodology.specs.declared.Status.TheVariants.{Open}
use Rattle.methodology.specs.declared.Opening.{Opening}
use Rattle.methodology.specs.Account.{DayInput, Account, members, present, accounts}
use Rattle.methodology.specs.Member.{loss}
use Rattle.methodology.specs.Day.{total, own_max_eul}
use Rattle.methodology.specs.Contribution.{KeptDay, highest, counted}
use Rattle.methodology.specs.Refusals.{clear, opening_rows, bad_input}
use Rattle.methodology.specs.Register.{Call, Register, start, last_number, refusal, step, Answer, accepted, refused, answer, buffer}
use Rattle.validation.specs.Passing.{Passes}
use Rattle.period.specs.declared.Period.{Period}
use Rattle.period.specs.Calls.{fresh_period, with_accrued}
use Rattle.period.specs.Registered.{period_of}
use Rattle.demand3.specs.Made.{Asked, Made, call_of, MadeOn}
use Rattle.demand3.specs.Demand3.{register_after}
use Rattle.demand3.proofs.Demand3.{Called, made_of, FromFresh}
use Rattle.not_begun.specs.NeverOccurs.{NeverOccurs}
use Rattle.not_begun.specs.NotBegun.{AsNotBegun}
use Rattle.without_losses.specs.PutIn.{SameFigures, AcceptedWithout, next_number, BelowNext, SameOr3, EachSameOr3}

-- ---- the day itself

-- a period, with another last accepted day number
abbrev pub with_last : (number : ℕ) → Period → Period
with_last number p =
    let a = p.accrued in
    with_accrued p (record { last = number; days = a.days; highest = a.highest; sums = a.sums })

-- call c is an accepted day without losses that brought d: g is the register before it
pub record DayWithout (g : Register) (d : DayInput) (c : Made) : Type 0 where
  -- "T is 0, and the Max EUL of Change 3 is reported": it is M of the days before, 0 without any
  pub says : c.answer ≡ accepted (0 ∷ highest g.held g.days ∷ [])
  -- "every member's e, share and cents are 0"
  pub writes : c.after ≡ flat_map (λ m. 0 ∷ 0 ∷ 0 ∷ 0 ∷ 0 ∷ []) (members g.held.n)
  -- "It is left out of D and of the mean. Its day number counts": nothing of the period changes but the last accepted day number
  pub leaves : c.period ≡ with_last d.terms.number (period_of g)

-- ---- only such days

abbrev pub AllWithout : Register → Type 0
AllWithout g = AllByRecursion (λ d. total g.held d.accounts ≡ 0) g.days

-- the register as if no day had come
abbrev pub days_dropped : Register → Register
days_dropped g = record { status = g.status; held = g.held; days = [] }

-- what a closing of the register answers and leaves in a buffer
abbrev pub Closes : Register → (before : List ℕ) → Answer → (after : List ℕ) → Type 0
Closes g before said after =
    let call = Call.closing (length before) in
    (said ≡ answer g call) × (after ≡ buffer g call before)

-- a closing that was made, lent `out`, where g is the register before it: exactly as if no day had come, and with the figures of Change 2
-- where it is accepted
pub record ClosesWithout (g : Register) (out : List ℕ) (c : Made) : Type 0 where
  pub as_no_day : Closes (days_dropped g) out c.answer c.after
  pub figures : g.status ≡ Open → length out ≡ 3 * g.held.n → AsNotBegun g.held.n c.answer c.after

-- ---- a day put in

abbrev pub calls_of : List Made → List Call
calls_of cs = map (λ c. call_of c.asked) cs

-- a call without the day that has this number, and with it: its answer, and what it writes where it is accepted (a refused one leaves its
-- buffer as it came)
pub record MadeSameOr3 (number : ℕ) (c c' : Made) : Type 0 where
  pub answers : SameOr3 number (call_of c.asked) c.answer c'.answer
  pub writes : (figures : List ℕ) → c.answer ≡ accepted figures → c.after ≡ c'.after

-- of each of two lists of calls
abbrev pub EachMadeSameOr3 : (number : ℕ) → (without with : List Made) → Type 0
EachMadeSameOr3 number [] [] = Unit {0}
EachMadeSameOr3 number [] (c' ∷ cs') = ⊥
EachMadeSameOr3 number (c ∷ cs) [] = ⊥
EachMadeSameOr3 number (c ∷ cs) (c' ∷ cs') = MadeSameOr3 number c c' × EachMadeSameOr3 number cs cs'

-- Two lists of calls, without the day and with it as call x: the same calls before it and after it, whatever their buffers hold. The day is
-- accepted, with a number below that of the next accepted day.
pub record PutIn (earlier later earlier' : List Made) (x : Made) (later' : List Made) : Type 0 where
  pub same_earlier : calls_of earlier ≡ calls_of earlier'
  pub same_later : calls_of later ≡ calls_of later'
  pub d : DayInput
  pub out : List ℕ
  pub x_is : x.asked ≡ Asked.day d out
  pub accepted_without : AcceptedWithout (register_after start earlier) d (length out)
  pub below_next : BelowNext d.terms.number (next_number (register_after start earlier) (calls_of later))

-- ---- Change 4

pub record WithoutLosses : Type 2 where
  -- "Such a day is now accepted": a day that rows 2 to 6 let pass is, whatever its losses
  pub day_accepted : (g : Register) (d : DayInput) (room : ℕ) → g.status ≡ Open → room ≡ 5 * g.held.n → Passes g.held (last_number g.days) d
      → refusal g (Call.day d room) ≡ clear
  -- and in every open period, of an opening that rows 1 and 10 let pass, there is one that is, under any number that is above the last accepted
  -- one and on which somebody is present, whoever else is absent
  pub there_is_one : (g : Register) (number m : ℕ) → g.status ≡ Open → opening_rows g.held ≡ clear → last_number g.days < number
      → 1 ≤ m → m ≤ g.held.n → present g.held number m ≡ true
      → (d : DayInput) × (d.terms.number ≡ number) × AcceptedWithout g d (5 * g.held.n)
  -- where T is 0 so is each loss, and the day's own Max EUL
  pub losses_none : (o : Opening) (accts : List Account) (m : ℕ) → 1 ≤ m → m ≤ o.n → total o accts ≡ 0 → loss o.k accts m ≡ 0
  pub own_none : (o : Opening) (accts : List Account) → total o accts ≡ 0 → own_max_eul o accts ≡ 0
  -- every such day, in every list of calls
  pub day : (cs : List Made) (c : Made) (d : DayInput) (out : List ℕ) → MadeOn fresh_period (cs ++ (c ∷ [])) → c.asked ≡ Asked.day d out
      → let g = register_after start cs in
      g.status ≡ Open → length out ≡ 5 * g.held.n → Passes g.held (last_number g.days) d → total g.held (accounts g.held.k d) ≡ 0 → DayWithout g d c
  -- "Its day number counts for the rising order": after it a day whose number is not above its own is refused by 3, itself among them
  pub number_counts : (g : Register) (d : DayInput) (room : ℕ) → AcceptedWithout g d room
      → (e : DayInput) → bad_input g.held e ≡ false → e.terms.number ≤ d.terms.number
      → answer (step g (Call.day d room)) (Call.day e (5 * g.held.n)) ≡ refused 3
  -- any list of days: M is the same over those that count, and all figures of a closing go by these
  pub m_of_counted : (o : Opening) (days : List KeptDay) → highest o (counted o days) ≡ highest o days
  pub left_out : (o : Opening) (days : List KeptDay) → SameFigures o days (counted o days)
  -- "Where all days are like this, closing answers as in Change 2": by the register, and so in every list of calls
  pub closes : (g : Register) (before : List ℕ) → AllWithout g
      → let call = Call.closing (length before) in
      Closes (days_dropped g) before (answer g call) (buffer g call before)
  pub closing : (cs : List Made) (c : Made) (out : List ℕ) → MadeOn fresh_period (cs ++ (c ∷ [])) → c.asked ≡ Asked.closing out
      → let g = register_after start cs in
      AllWithout g → ClosesWithout g out c
  -- Put in anywhere, a day without losses changes no figure of another accepted day, nor D, M or any contribution. Of a list of days, the
  -- last one first; by the register, of every call after it; and so in every list of calls, before it and after it.
  pub put_into_days : (o : Opening) (later earlier : List KeptDay) (d : KeptDay) → total o d.accounts ≡ 0
      → SameFigures o (later ++ (d ∷ earlier)) (later ++ earlier)
  pub put_into_calls : (g : Register) (d : DayInput) (room : ℕ) (calls : List Call) → AcceptedWithout g d room → BelowNext d.terms.number (next_number g calls)
      → EachSameOr3 d.terms.number g (step g (Call.day d room)) calls
  pub put_into_lists : (earlier later earlier' : List Made) (x : Made) (later' : List Made)
      → MadeOn fresh_period (earlier ++ later) → MadeOn fresh_period (earlier' ++ (x ∷ later'))
      → (p : PutIn earlier later earlier' x later')
      → EachMadeSameOr3 p.d.terms.number earlier earlier' × EachMadeSameOr3 p.d.terms.number later later'
  -- "Number 7 no longer occurs."
  pub number_7 : NeverOccurs 7
  -- and every list of compiled calls, as demand 3 has them
  pub compiled_day :
      {R : Type 1} {𝓤 : Ura R} (𝓛 : Logic 𝓤) (mem : Memory → SProp 𝓤) (run : Routine → Fun 𝓤)
      (cs : List Called) (c : Called) (d : DayInput) (out : List ℕ) → FromFresh 𝓛 mem run (cs ++ (c ∷ [])) → (made_of c).asked ≡ Asked.day d out
      → let g = register_after start (map made_of cs) in
      g.status ≡ Open → length out ≡ 5 * g.held.n → Passes g.held (last_number g.days) d → total g.held (accounts g.held.k d) ≡ 0
      → DayWithout g d (made_of c)
  pub compiled_closing :
      {R : Type 1} {𝓤 : Ura R} (𝓛 : Logic 𝓤) (mem : Memory → SProp 𝓤) (run : Routine → Fun 𝓤)
      (cs : List Called) (c : Called) (out : List ℕ) → FromFresh 𝓛 mem run (cs ++ (c ∷ [])) → (made_of c).asked ≡ Asked.closing out
      → let g = register_after start (map made_of cs) in
      AllWithout g → ClosesWithout g out (made_of c)
  pub compiled_lists :
      {R : Type 1} {𝓤 : Ura R} (𝓛 : Logic 𝓤) (mem : Memory → SProp 𝓤) (run : Routine → Fun 𝓤)
      (earlier later earlier' : List Called) (x : Called) (later' : List Called)
      → FromFresh 𝓛 mem run (earlier ++ later) → FromFresh 𝓛 mem run (earlier' ++ (x ∷ later'))
      → (p : PutIn (map made_of earlier) (map made_of later) (map made_of earlier') (made_of x) (map made_of later'))
      → EachMadeSameOr3 p.d.terms.number (map made_of earlier) (map made_of earlier')
      × EachMadeSameOr3 p.d.terms.number (map made_of later) (map made_of later')
