-- What each call answers and leaves, by equations, from the period that it is given and its arguments: `OpeningMeets`, `DayMeets` and
-- `ClosingMeets` are the contracts, whole. Each has an equation for document 01's answer, one for the period that is left, and one for the
-- buffer if it is lent one.
use Rattle.std.specs.Prelude.{Bool, not, ◌&&◌, cond, ◌≡◌, ℕ, ◌+◌, ◌*◌, max, leb, ltb, eqb, length, take, replicate}
use mathlib.Core.List.{List, [], ◌∷◌, flat_map}
use Rattle.std.specs.List.{list_any}
use Rattle.std.specs.Result.{is_ok}
use Rattle.numbers.specs.Sums.{Σ}
use Rattle.methodology.specs.declared.Status.{Status}
use Rattle.methodology.specs.declared.Status.TheVariants.{Fresh, Open, Closed}
use Rattle.methodology.specs.declared.Refusal.TheVariants.{OutOfTurn, BadLengths}
use Rattle.methodology.specs.declared.Opening.{Opening}
use Rattle.methodology.specs.declared.DayTerms.{DayTerms}
use Rattle.methodology.specs.Account.{no_opening, DayInput, Account, accounts}
use Rattle.methodology.specs.Member.{loss}
use Rattle.methodology.specs.Day.{total, own_max_eul, scale, share, dailies}
use Rattle.methodology.specs.Contribution.{counts, charge, funded, three}
use Rattle.methodology.specs.Refusals.{Verdict, clear, row◌when◌else◌, is_open, opening_rows, opening_refusal, day_refusal, closing_refusal}
use Rattle.methodology.specs.Register.{if_accepted, Answer, answer_by}
use Rattle.quotient.specs.Ranges.{greatest_total}
use Rattle.validation.specs.Slices.{in_places, listed}
use Rattle.fund.specs.Shares.{plus_each}
use Rattle.period.specs.declared.Accrued.{Accrued}
use Rattle.period.specs.declared.Period.{Period}

-- a period with this opening and no day: "M, D, the last accepted day number and all sums 0"
abbrev pub without_days : Status → Opening → Period
without_days status o =
    record { status = status; held = o; accrued = record { last = 0; days = 0; highest = 0; sums = replicate 32 0 } }

abbrev pub fresh_period : Period
fresh_period = without_days Fresh (in_places no_opening)

-- the same period, with what its days come to
abbrev pub with_accrued : Period → Accrued → Period
with_accrued p a = record { status = p.status; held = p.held; accrued = a }

-- the opening that a period holds
abbrev pub held_by : Period → Opening
held_by p = listed p.held

-- Whether a period's fields are in the ranges of an open one: the last accepted day number at most 31, D at most that (day numbers rise
-- from 1), M at most the greatest T that a day can have, an opening, with its first and last days, that rows 1 and 10 let pass, each sum at
-- most D shares of the whole.
unfoldable pub in_range : Period → Bool
in_range p =
    leb p.accrued.last 31
    && leb p.accrued.days p.accrued.last
    && leb p.accrued.highest greatest_total
    && is_ok (opening_rows (held_by p))
    && not (list_any (ltb (p.accrued.days * scale)) p.accrued.sums)

-- The status that counts. A period that is out of range counts as closed, and so does a fresh one (its n is 0), which no row tells from a
-- closed one. No open period that calls returned is out of range: `status_counts` in Reach.antt, among the proofs.
abbrev pub status_of : Period → Status
status_of p = cond (in_range p) p.status Closed

-- ---- opening

-- the refusal table, read with what the period holds
unfoldable pub opening_row : Period → Opening → Verdict
opening_row p o = opening_refusal (status_of p) o

-- the period after an accepted opening
abbrev pub opened_period : Opening → Period
opened_period o = without_days Open (in_places o)

pub record OpeningMeets (p : Period) (o : Opening) (said : Answer) (left : Period) : Type 0 where
  pub answer : said ≡ answer_by (opening_row p o) []
  pub period : left ≡ if_accepted (opening_row p o) (opened_period o) p

-- rows 2 and 4 of a day or a closing, whose output is `room` long, where `width` numbers a member are due
unfoldable pub output_row : Period → (width room : ℕ) → Verdict
output_row p width room = row OutOfTurn when not (is_open (status_of p)) else row BadLengths when not (eqb room (width * p.held.n)) else clear

-- ---- day

-- the accounts of a day that a call brings
abbrev pub accounts_brought : Period → DayInput → List Account
accounts_brought p d = accounts p.held.k d

-- its T
abbrev pub total_by : Period → DayInput → ℕ
total_by p d = total (held_by p) (accounts_brought p d)

unfoldable pub day_row : Period → DayInput → (room : ℕ) → Verdict
day_row p d room = day_refusal (status_of p) (held_by p) p.accrued.last d room

-- what a day that counts adds to the sum in place i: member i + 1's share
abbrev pub share_at : Period → DayInput → (i : ℕ) → ℕ
share_at p d i =
    cond (ltb i p.held.n) (share (loss p.held.k (accounts_brought p d) (i + 1)) (total_by p d)) 0

-- The Max EUL that an accepted day reports: M of the days before it, or its own where that is greater (document 02, Change 3).
abbrev pub reported_by : Period → DayInput → ℕ
reported_by p d = max p.accrued.highest (own_max_eul (held_by p) (accounts_brought p d))

-- What a period's days come to with one more: its number is the last accepted one, its reported Max EUL is M, and where it counts (document
-- 02, Change 4) D is one more and the sums have its shares.
abbrev pub taken_in : Accrued → DayTerms → (total reported : ℕ) → (share : (i : ℕ) → ℕ) → Accrued
taken_in a terms total reported share =
    record {
      last = terms.number;
      days = cond (counts total) (a.days + 1) a.days;
      highest = reported;
      sums = cond (counts total) (plus_each a.sums share) a.sums;
    }

-- the period after it
abbrev pub sized_period : Period → DayInput → Period
sized_period p d = with_accrued p (taken_in p.accrued d.terms (total_by p d) (reported_by p d) (share_at p d))

-- A day "returns T and Max EUL" and writes "5 numbers a member". A refused one leaves the period and the buffer as before.
pub record DayMeets (p : Period) (d : DayInput) (before : List ℕ) (said : Answer) (left : Period) (after : List ℕ) : Type 0 where
  pub answer :
      said
      ≡ answer_by (day_row p d (length before)) (total_by p d ∷ reported_by p d ∷ [])
  pub period : left ≡ if_accepted (day_row p d (length before)) (sized_period p d) p
  pub buffer : after ≡ if_accepted (day_row p d (length before)) (dailies (held_by p) (reported_by p d) (accounts_brought p d)) before

-- ---- closing

unfoldable pub closing_row : Period → (room : ℕ) → Verdict
closing_row p room = closing_refusal (status_of p) (held_by p) room

-- the sums of the members' shares, and the raw charge for one of them
abbrev pub sums_held : Period → List ℕ
sums_held p = take p.held.n p.accrued.sums

abbrev pub charge_by : Period → (sum : ℕ) → ℕ
charge_by p sum = charge p.accrued.highest sum p.accrued.days

-- the period after an accepted closing: "closed and otherwise as before"
abbrev pub closed_period : Period → Period
closed_period p = record { status = Closed; held = p.held; accrued = p.accrued }

-- A closing "returns D, M and the total funded" and writes "3 a member". A refused one leaves the period and the buffer as before.
pub record ClosingMeets (p : Period) (before : List ℕ) (said : Answer) (left : Period) (after : List ℕ) : Type 0 where
  pub answer :
      said
      ≡ answer_by (closing_row p (length before)) (p.accrued.days ∷ p.accrued.highest ∷ Σ (sums_held p) (λ sum. funded (charge_by p sum)) ∷ [])
  pub period : left ≡ if_accepted (closing_row p (length before)) (closed_period p) p
  pub buffer : after ≡ if_accepted (closing_row p (length before)) (flat_map (λ s. three (charge_by p s)) (sums_held p)) before
