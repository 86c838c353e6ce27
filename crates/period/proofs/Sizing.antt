-- A day that no row refuses: what its figures ask for holds, and what the program found and wrote is the day's.
use mathlib.Core.Path.{◌≡◌, refl, sym, ap, ◌∙◌}
use mathlib.Core.Bool.{Bool, true, false, cond}
use mathlib.Core.List.{List, flat_map}
use Prim.Native.Nat.{ℕ, ◌+◌, ◌*◌, ◌≤◌, ◌<◌, max}
use native.Mathlib.Nat.{add_comm}
use native.Mathlib.Omega.{arith}
use lib.Dec.{ltb}
use lib.ListN.{length, get_or, take, length-take}
use lib.Seq.{get_or-take}
use borrow.Author.Tests.{ltb-true, lt-ltb}
use Rattle.std.specs.List.{AllByRecursion, range_with_len}
use Rattle.std.proofs.lemmas.List.Sums.{fails_before_first}
use Rattle.numbers.proofs.Lists.{◌∈◌, by_index, map_eq, range_mem}
use Rattle.methodology.specs.Account.{DayInput, Account}
use Rattle.methodology.specs.Member.{loss}
use Rattle.methodology.specs.Day.{scale, share, five, dailies}
use Rattle.methodology.specs.Refusals.{clear, bad_amount, day_rows}
use Rattle.methodology.proofs.RowLimits.{accounts_long}
use Rattle.quotient.specs.Ranges.{Loss, greatest_total}
use Rattle.quotient.proofs.QuotientBounds.{share_le}
use Rattle.validation.specs.Slices.{no_account}
use Rattle.validation.specs.Passing.{Passes}
use Rattle.validation.proofs.DayPasses.{sized, rows_leave, passes}
use Rattle.exposure.specs.declared.day.Figures.{Figures}
use Rattle.exposure.specs.DayFigures.{Sizable, Grouped, FiguresAre}
use Rattle.exposure.proofs.Bounds.{total_small}
use Rattle.exposure.proofs.MaxTotal.{loss_le_total, max_le_total}
use Rattle.exposure.proofs.Admitted.{admitted}
use Rattle.exposure.proofs.Found as found
use Rattle.fund.specs.Shares.{share_in, plus_each, with_shares}
use Rattle.fund.proofs.Dailies.{Few, dailies_long, are_dailies, dailies_few, share_written}
use Rattle.period.specs.declared.Period.{Period}
use Rattle.period.specs.Calls.{held_by, output_row, accounts_brought, total_by, day_row, share_at, reported_by, with_accrued, sized_period}
use Rattle.period.proofs.InRange.{Ranged, held_opened, ready}
use Rattle.period.proofs.Replies.{day_passes}

pub record Admits (p : Period) (d : DayInput) (room : ℕ) : Type 0 where
  pub in_range_lem : Ranged p
  pub room_long : room ≡ 5 * p.held.n
  pub rows : Passes (held_by p) p.accrued.last d

pub admits : (p : Period) (d : DayInput) (room : ℕ) → output_row p 5 room ≡ clear → day_rows (held_by p) p.accrued.last d ≡ clear → Admits p d room
admits p d room e f =
    let r = ready p 5 room e in
    record { in_range_lem = r.in_range_lem; room_long = r.room_long; rows = passes (held_by p) p.accrued.last d f }

pub passes_all : (p : Period) (d : DayInput) (room : ℕ) → day_row p d room ≡ clear → Admits p d room
passes_all p d room e = let (lent, brought) = day_passes p d room e in admits p d room lent brought

-- what any day has that is admitted
module _ {p : Period} {d : DayInput} {room : ℕ} (s : Admits p d room) where
  pub members_few : p.held.n ≤ 32
  members_few = (held_opened s.in_range_lem).members_few

  pub grouped : Grouped p.held
  grouped = record { few = λ i h. rw (get_or-take {A = ℕ} p.held.n p.held.groups i 0 h) at ((held_opened s.in_range_lem).group_few i h) }

  pub sizable : Sizable p.held.n p.held.k d
  sizable = admitted (held_by p) d (held_opened s.in_range_lem) (rows_leave (held_by p) d s.rows.input s.rows.headings s.rows.amounts)

  pub sums_fit : (i : ℕ) → get_or p.accrued.sums i 0 ≤ 31 * scale
  sums_fit i = let r = s.in_range_lem in omega (arith, r.sums i, r.counted, r.month)

  good_amount : (a : Account) → a ∈ accounts_brought p d → bad_amount a ≡ false
  good_amount =
      by_index (λ a. bad_amount a ≡ false) (accounts_brought p d) no_account
      (λ i h. fails_before_first bad_amount (accounts_brought p d) i no_account (omega (arith, s.rows.amounts, accounts_long p.held.k d)))

  pub total_few : total_by p d ≤ greatest_total
  total_few =
      omega (arith, total_small (accounts_brought p d) good_amount (omega (arith, accounts_long p.held.k d, (sized (held_by p) d s.rows.input).few)) (held_by p))

  -- nor is what it reports, though that may be above its T, or a number that it writes
  pub reported_few : reported_by p d ≤ greatest_total
  reported_few = omega (arith, s.in_range_lem.bounded, max_le_total (held_by p) (accounts_brought p d), total_few)

  pub written_few : AllByRecursion Few (dailies (held_by p) (reported_by p d) (accounts_brought p d))
  written_few =
      dailies_few (held_by p) (reported_by p d) (accounts_brought p d)
      (λ m i. record { part = loss_le_total (held_by p) (accounts_brought p d) i; bounded = total_few })
      reported_few

-- a share of the whole is at most 10^12
module _ (p : Period) (d : DayInput) (positive : 0 < total_by p d) where
  pub share_few : (i : ℕ) → share_at p d i ≤ scale
  unfolding share
  share_few i = by (ltb i p.held.n) refl
    where
      by : (t : Bool) → ltb i p.held.n ≡ t → cond t (share (loss p.held.k (accounts_brought p d) (i + 1)) (total_by p d)) 0 ≤ scale
      by true q =
          let here : i < p.held.n = ltb-true i p.held.n q in
          share_le scale _ _ positive (loss_le_total (held_by p) (accounts_brought p d) {m = i + 1} (range_mem 1 p.held.n (omega arith) (omega arith)))
      by false q = omega arith

-- the shares of a day with losses, in what it writes by whichever Max EUL
module _ (p : Period) (d : DayInput) (some : ¬ (total_by p d ≡ 0)) (Max : ℕ) where
  written_at : (i : ℕ) (t : Bool) → ltb i p.held.n ≡ t
      → cond t (share_in (dailies (held_by p) Max (accounts_brought p d)) i) 0
      ≡ cond t (share (loss p.held.k (accounts_brought p d) (i + 1)) (total_by p d)) 0
  written_at i true q =
      share_written (held_by p) Max (accounts_brought p d) some i (ltb-true i p.held.n q)
      ∙ ap (λ (m : ℕ). share (loss p.held.k (accounts_brought p d) m) (total_by p d)) (add_comm 1 i)
  written_at i false q = refl

  share_at_lem : (i : ℕ) → cond (ltb i p.held.n) (share_in (dailies (held_by p) Max (accounts_brought p d)) i) 0 ≡ share_at p d i
  share_at_lem i = written_at i (ltb i p.held.n) refl

-- what the program found of a day that is admitted
module _ {p : Period} {d : DayInput} {room : ℕ} (s : Admits p d room) {r : Figures} (are : FiguresAre p.held d r) where
  pub total_is : r.losses.total ≡ total_by p d
  total_is = found.total_is (held_by p) (accounts_brought p d) r.losses are.losses

  pub parts : (i : ℕ) → i < length (take p.held.n r.losses.each) → Loss (get_or (take p.held.n r.losses.each) i 0) r.losses.total
  parts i l =
      let k : i < p.held.n = omega (arith, length-take p.held.n r.losses.each) in
      record {
        part = rw (get_or-take p.held.n r.losses.each i 0 k) (found.loss_part (held_by p) (accounts_brought p d) r.losses are.losses i k);
        bounded = omega (arith, total_is, total_few s);
      }

  pub top_few : r.top ≤ greatest_total
  top_few = omega (arith, are.top, max_le_total (held_by p) (accounts_brought p d), total_few s)

  -- the greater of M and the day's own Max EUL is what it reports
  pub reported_is : {reported : ℕ} → reported ≡ max p.accrued.highest r.top → reported ≡ reported_by p d
  reported_is e = e ∙ ap (max p.accrued.highest) are.top

  -- the period that it leaves where it has no losses
  pub leaves_none : r.losses.total ≡ 0 → {reported : ℕ} → reported ≡ reported_by p d
      → with_accrued p (record { last = d.terms.number; days = p.accrued.days; highest = reported; sums = p.accrued.sums }) ≡ sized_period p d
  leaves_none none told = rw (sym total_is ∙ none, told) refl

  -- what it wrote, by some Max EUL
  module _ (Max : ℕ) {out : List ℕ} (wrote : out ≡ flat_map (λ e. five e Max r.losses.total) (take p.held.n r.losses.each)) where
    pub out_is : out ≡ dailies (held_by p) Max (accounts_brought p d)
    out_is = wrote ∙ rw total_is (are_dailies (held_by p) Max (accounts_brought p d) r.losses.each are.losses.each)

    pub out_long : length out ≡ 5 * p.held.n
    out_long = ap length out_is ∙ dailies_long (held_by p) Max (accounts_brought p d)

    -- where it has losses
    module _ (some : 0 < r.losses.total) where
      positive : 0 < total_by p d
      positive = omega (arith, total_is)

      pub shares_few : (i : ℕ) → i < p.held.n → share_in out i ≤ scale
      shares_few i h = rw out_is (rw (sym (share_at_lem p d (λ none. omega (arith, positive)) Max i), lt-ltb i p.held.n h) at (share_few p d positive i))

      -- the sums that take its shares in are those that the accounts give
      sums_more : with_shares p.accrued.sums p.held.n out ≡ plus_each p.accrued.sums (share_at p d)
      sums_more =
          rw out_is
          (map_eq _ _ (range_with_len 0 32) (λ i m. ap (λ (x : ℕ). get_or p.accrued.sums i 0 + x) (share_at_lem p d (λ none. omega (arith, positive)) Max i)))

      -- and the period that it leaves
      pub leaves_some : {reported : ℕ} → reported ≡ reported_by p d → {sums : List ℕ} → sums ≡ with_shares p.accrued.sums p.held.n out
          → with_accrued p (record { last = d.terms.number; days = p.accrued.days + 1; highest = reported; sums = sums }) ≡ sized_period p d
      leaves_some told e = rw (lt-ltb 0 (total_by p d) positive, told, e ∙ sums_more) refl
