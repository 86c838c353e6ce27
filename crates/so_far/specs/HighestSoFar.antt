-- Document 02, Change 3: "A day's Max EUL, in the result, the report and the three cent figures, becomes the highest own-day figure from the
-- period's first accepted day to this one. M does not change, and this is to be shown for all periods." `HighestSoFar` is the claim. That
-- the figures in a report never fall, and that the fund's M is the last of them, `AsPrinted` says of its bytes.
use Rattle.std.specs.Prelude.{◌≡◌, ℕ, ◌+◌, ◌*◌, ◌≤◌, ◌<◌, max, get_or}
use Rattle.std.specs.List.{AllByRecursion}
use mathlib.Core.List.{List, [], ◌∷◌, ◌++◌, map, flat_map}
use seplogic.Ra.Ura.{Ura}
use base.Logic.{SProp}
use prog.Memory.{Memory}
use prog.Routine.{Routine}
use types.Logic.{Logic}
use contract.Monad.{Fun}
use Rattle.numbers.specs.Sums.{greatest}
use Rattle.methodology.specs.declared.Status.TheVariants.{Open}
use Rattle.methodology.specs.declared.Opening.{Opening}
use Rattle.methodology.specs.Account.{DayInput, members, accounts}
use Rattle.methodology.specs.Member.{loss}
use Rattle.methodology.specs.Day.{total, own_max_eul, value, reserve, estimate, five}
use Rattle.methodology.specs.Contribution.{KeptDay, reported_max_eul, highest}
use Rattle.methodology.specs.Refusals.{clear}
use Rattle.methodology.specs.Register.{Call, Register, start, refusal, accepted}
use Rattle.period.specs.Calls.{fresh_period}
use Rattle.demand3.specs.Made.{Asked, Made, MadeOn}
use Rattle.demand3.specs.Demand3.{Holds, register_after, from_answers, Fits64}
use Rattle.demand3.proofs.Demand3.{Called, made_of, FromFresh}

-- ---- days

-- of each of a period's days, the last one first, its own Max EUL
abbrev pub owns : Opening → List KeptDay → List ℕ
owns o days = map (λ d. own_max_eul o d.accounts) days

-- and the one that it reports, by the days up to it
abbrev pub reports : Opening → List KeptDay → List ℕ
reports o [] = []
reports o (d ∷ ds) = reported_max_eul o (d ∷ ds) ∷ reports o ds

-- "M does not change", in three ways: it is the highest own Max EUL, as document 01 has it; the highest one reported; and the one that was
-- reported last, 0 where none was
pub record MIsTheSame (own reported : List ℕ) (M : ℕ) : Type 0 where
  pub highest_own : M ≡ greatest own (λ x. x)
  pub highest_reported : M ≡ greatest reported (λ x. x)
  pub last_reported : M ≡ get_or reported 0 0

-- x is the fraction p over q "rounded to the nearest [..], a half up": x - 1/2 ≤ p/q < x + 1/2
abbrev pub Nearest : (x p q : ℕ) → Type 0
Nearest x p q = (2 * x * q ≤ 2 * p + q) × (2 * p < 2 * x * q + q)

-- ---- calls

-- what was reported since the last accepted opening, the last figure first, as a caller notes it from the answers alone
abbrev pub note_accepted : Asked → (figures : List ℕ) → (notes : List ℕ) → List ℕ
note_accepted (Asked.opening o) figures notes = []
note_accepted (Asked.day d out) figures notes = get_or figures 1 0 ∷ notes
note_accepted (Asked.closing out) figures notes = notes

abbrev pub noted : List Made → List ℕ
noted cs = from_answers note_accepted [] cs

-- the own Max EUL of a day that brings d
abbrev pub own_of : Register → DayInput → ℕ
own_of g d = own_max_eul g.held (accounts g.held.k d)

-- a day that brought d and was answered by T and Max, and left `out`: g is the register before it, `notes` what was reported before it
pub record DayReports (g : Register) (notes : List ℕ) (d : DayInput) (T Max : ℕ) (out : List ℕ) : Type 0 where
  -- "the highest own-day figure from the period's first accepted day to this one"
  pub max_is : Max ≡ greatest (own_of g d ∷ owns g.held g.days) (λ x. x)
  -- which is the greater of its own and of what was reported last; so it is at least its own, never falls, and is its own where nothing was
  pub so_far : Max ≡ max (own_of g d) (get_or notes 0 0)
  pub first_is_own : notes ≡ [] → Max ≡ own_of g d
  pub at_least_own : own_of g d ≤ Max
  pub never_falls : AllByRecursion (λ x. x ≤ Max) notes
  -- T, e and share are as they were, and the very Max that is returned is in the three cent figures; on a day without losses all five are 0
  -- (Change 4)
  pub t_is : T ≡ total g.held (accounts g.held.k d)
  pub writes : out ≡ flat_map (λ m. five (loss g.held.k (accounts g.held.k d) m) Max T) (members g.held.n)
  pub fits : AllByRecursion Fits64 (T ∷ Max ∷ out)

-- all that the register holds after an accepted opening
abbrev pub opened_by : Opening → Register
opened_by o = record { status = Open; held = o; days = [] }

-- ---- Change 3

pub record HighestSoFar : Type 2 where
  -- any list of days
  pub m_is_the_same : (o : Opening) (days : List KeptDay) → MIsTheSame (owns o days) (reports o days) (highest o days)
  pub first_is_own : (o : Opening) (d : KeptDay) → reported_max_eul o (d ∷ []) ≡ own_max_eul o d.accounts
  pub at_least_own : (o : Opening) (d : KeptDay) (days : List KeptDay) → own_max_eul o d.accounts ≤ reported_max_eul o (d ∷ days)
  pub never_falls : (o : Opening) (d : KeptDay) (days : List KeptDay) → AllByRecursion (λ x. x ≤ reported_max_eul o (d ∷ days)) (reports o days)
  -- the three cent figures of a day with losses are the exact fraction rounded once, whatever Max is, above T too
  pub cents : (e Max T : ℕ) → 0 < T
      → Nearest (value e Max T) (100 * e * Max) T × Nearest (reserve e Max T) (110 * e * Max) T × Nearest (estimate e Max T) (220 * e * Max) T
  -- every accepted day of every list of calls
  pub day_reports : (cs : List Made) (c : Made) (d : DayInput) (out : List ℕ) (T Max : ℕ) → MadeOn fresh_period (cs ++ (c ∷ []))
      → c.asked ≡ Asked.day d out → c.answer ≡ accepted (T ∷ Max ∷ [])
      → DayReports (register_after start cs) (noted cs) d T Max c.after
  -- and every accepted closing: "M does not change"
  pub closing_returns : (cs : List Made) (c : Made) (out : List ℕ) (D M funds : ℕ) → MadeOn fresh_period (cs ++ (c ∷ []))
      → c.asked ≡ Asked.closing out → c.answer ≡ accepted (D ∷ M ∷ funds ∷ [])
      → let g = register_after start cs in
      MIsTheSame (owns g.held g.days) (noted cs) M
  -- An accepted opening begins anew: of the calls after it demand 3 holds from a register that knows this opening alone, and what is noted
  -- then is noted of these calls alone. So the first accepted day reports its own (`first_is_own` in `DayReports`).
  pub begins_anew : (cs : List Made) (a : Made) (rest : List Made) (o : Opening) → MadeOn fresh_period (cs ++ (a ∷ rest))
      → a.asked ≡ Asked.opening o → refusal (register_after start cs) (Call.opening o) ≡ clear
      → Holds (opened_by o) rest × (noted (cs ++ (a ∷ rest)) ≡ noted rest)
  -- every list of compiled calls, as demand 3 has them
  pub compiled_day :
      {R : Type 1} {𝓤 : Ura R} (𝓛 : Logic 𝓤) (mem : Memory → SProp 𝓤) (run : Routine → Fun 𝓤)
      (cs : List Called) (c : Called) (d : DayInput) (out : List ℕ) (T Max : ℕ) → FromFresh 𝓛 mem run (cs ++ (c ∷ []))
      → (made_of c).asked ≡ Asked.day d out → (made_of c).answer ≡ accepted (T ∷ Max ∷ [])
      → DayReports (register_after start (map made_of cs)) (noted (map made_of cs)) d T Max (made_of c).after
  pub compiled_closing :
      {R : Type 1} {𝓤 : Ura R} (𝓛 : Logic 𝓤) (mem : Memory → SProp 𝓤) (run : Routine → Fun 𝓤)
      (cs : List Called) (c : Called) (out : List ℕ) (D M funds : ℕ) → FromFresh 𝓛 mem run (cs ++ (c ∷ []))
      → (made_of c).asked ≡ Asked.closing out → (made_of c).answer ≡ accepted (D ∷ M ∷ funds ∷ [])
      → let g = register_after start (map made_of cs) in
      MIsTheSame (owns g.held g.days) (noted (map made_of cs)) M
  pub compiled_anew :
      {R : Type 1} {𝓤 : Ura R} (𝓛 : Logic 𝓤) (mem : Memory → SProp 𝓤) (run : Routine → Fun 𝓤)
      (cs : List Called) (a : Called) (rest : List Called) (o : Opening) → FromFresh 𝓛 mem run (cs ++ (a ∷ rest))
      → (made_of a).asked ≡ Asked.opening o → refusal (register_after start (map made_of cs)) (Call.opening o) ≡ clear
      → Holds (opened_by o) (map made_of rest) × (noted (map made_of (cs ++ (a ∷ rest))) ≡ noted (map made_of rest))
