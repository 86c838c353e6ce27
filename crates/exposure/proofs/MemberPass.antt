-- The pass over a member's accounts: what is counted and what is left make the member's EUL.
use mathlib.Core.Path.{◌≡◌, refl, sym, ap, ◌∙◌}
use mathlib.Core.List.{List, ◌∷◌, map}
use Prim.Native.Nat.{ℕ, ◌+◌, ◌-◌, ◌*◌, ◌≤◌, ◌<◌, ◌^◌, max}
use native.Mathlib.Nat.{mul-le-mul_right}
use native.Mathlib.Numerals.{add-one}
use native.Mathlib.Omega.{arith}
use lib.IntN.{ℤ, pos, nat_abs, +ℤ_idl}
use lib.Signed.{mag}
use lib.ListN.{length, get_or, take, drop, drop_of_length-le}
use lib.Seq.{drop-cons}
use mir.Syntax.{w64}
use mir.Val.{to_z, of_z}
use Rattle.numbers.specs.Signed.{◌⁺}
use Rattle.std.specs.List.{filter}
use Rattle.numbers.specs.Lists.{descending}
use Rattle.numbers.specs.Sums.{Σ, greatest}
use Rattle.numbers.specs.Rounding.{ceil_div}
use Rattle.numbers.proofs.Signed.{back_ok}
use Rattle.numbers.proofs.Lists.{part_length, part_at}
use Rattle.numbers.proofs.Sorting.{greatest_two}
use Rattle.methodology.specs.Account.{DayInput, Account, account_at, accounts, nobody, eul_of}
use Rattle.methodology.specs.Member.{is_client, is_r, house_eul, half_of_clients, two_largest_of_r, part_b, part_c, member_eul}
use Rattle.methodology.specs.Refusals.{limit}
use Rattle.methodology.proofs.RowLimits.{accounts_long}
use Rattle.validation.specs.Slices.{no_account, Within}
use Rattle.validation.proofs.Amounts.{accounts_at}
use Rattle.exposure.specs.declared.account.Scenario.{Scenario}
use Rattle.exposure.specs.declared.member.Tally.{Tally}
use Rattle.exposure.specs.AccountRanges.{Npvs, Owed}
use Rattle.exposure.specs.Scenario.{stress_read, fall_under, eul_by}
use Rattle.exposure.specs.Tally.{largest_of_r, eul_over, TallyOf, Small, TallyWith, Ended}
use Rattle.exposure.specs.AccountsIn.{most_eul}
use Rattle.exposure.proofs.Decreases.{fall_le, eul_by_lem}
use Rattle.exposure.proofs.Bounds.{eul_abs}

-- nothing counted yet
abbrev pub empty : Tally
empty = record { house = pos 0; clients = 0; of_r = 0; first = 0; second = 0 }

all_left : (c l w : ℕ) → l ≤ w → max (ceil_div (0 + c) 2) (max (0 + 0) (max (0 + l) w)) ≡ max (ceil_div c 2) w
unfolding ceil_div
all_left c l w h = omega arith

over_empty : (eul : Account → ℤ) (accts : List Account) → eul_over empty eul accts ≡ member_eul eul accts
unfolding eul_over member_eul part_b half_of_clients two_largest_of_r largest_of_r
over_empty eul accts =
    let rs = map (λ (a : Account). eul a ⁺) (filter is_r accts) in
    let c : ℕ = Σ (filter is_client accts) (λ a. eul a ⁺) in
    let z : 0 + part_c eul accts ≡ part_c eul accts = omega arith in
    rw (+ℤ_idl (house_eul eul accts), all_left c (greatest rs (λ x. x)) (Σ (take 2 (descending rs)) (λ x. x)) (greatest_two rs), z)

pub record Pass (eul : Account → ℤ) (accts : List Account) (t : Tally) (i : ℕ) : Type 0 where
  pub held : TallyOf t i
  pub sum : eul_over t eul (drop i accts) ≡ member_eul eul accts

pub pass_none : (eul : Account → ℤ) (accts : List Account) → Pass eul accts empty 0
pass_none eul accts = record { held = omega arith; sum = over_empty eul accts }

module _ (k : ℕ) (s : Scenario) (d : DayInput) {t : Tally} {i : ℕ}
    (w : Within k d.headings d.npvs d.margins d.extras) (p : Pass (eul_by k s) (accounts k d) t i) where
  pub pass_small : i ≤ length d.headings → Small t
  pass_small h = omega (arith, p.held, w.few)

  pub pass_all : i ≤ length d.headings → length d.headings ≤ i → (r : ℤ) → Ended t r → (r ≡ member_eul (eul_by k s) (accounts k d)) × (nat_abs r ≤ most_eul)
  pass_all h l r e = (
    e.is (eul_by k s) ∙ rw (drop_of_length-le (accounts k d) {i = i} (omega (arith, accounts_long k d))) at p.sum,
    omega (arith, e.bound i p.held, w.few),
  )

  -- account i, and its row of NPVs
  module _ (h : i < length d.headings) (g : stress_read s ≤ k) where
    abbrev row : List ℤ
    row = take (i * (k + 1) + (k + 1) - i * (k + 1)) (drop (i * (k + 1)) d.npvs)

    width : i * (k + 1) + (k + 1) - i * (k + 1) ≡ k + 1
    width = omega arith

    room : i * (k + 1) + (k + 1) ≤ length d.npvs
    room = omega (arith, w.npvs_long, mul-le-mul_right (k + 1) h)

    row_long : length row ≡ k + 1
    row_long = rw width (part_length (i * (k + 1)) (k + 1) d.npvs room)

    pub row_npvs : (stress_read s < length row) × Npvs row
    row_npvs = (
      omega (arith, row_long),
      record {
        at = λ x l.
            let at = i * (k + 1) in
            let l' : x < at + (k + 1) - at = omega (arith, row_long, width) in
            rw (part_at at (at + (k + 1) - at) d.npvs x (pos 0) l') (w.npv (at + x) (omega (arith, room)));
      },
    )

    pub owed : (f : ℕ) → f ≡ fall_under s row → Owed f (get_or d.margins i 0) (get_or d.extras i 0)
    owed f q = record { falls = rw q (fall_le s row_npvs.1 row_npvs.0); margins = w.margin i h; part = w.extra i h }

    module _ (f : ℕ) (e : ℤ) (q : f ≡ fall_under s row) (ok : mag e < 2 ^ 63) (q' : e ≡ eul_of f (get_or d.margins i 0) (get_or d.extras i 0)) where
      is : to_z w64 (of_z w64 e) ≡ eul_of f (get_or d.margins i 0) (get_or d.extras i 0)
      is = back_ok w64 e ok ∙ q'

      pub eul_near : nat_abs (to_z w64 (of_z w64 e)) ≤ 2 * limit
      eul_near = let o = owed f q in rw is (eul_abs o.falls o.margins o.part)

      account : eul_by k s (account_at k d i) ≡ to_z w64 (of_z w64 e)
      unfolding account_at
      account =
          let n : take (k + 1) (drop (i * (k + 1)) d.npvs) ≡ row = rw width in
          eul_by_lem k s (account_at k d i) (ap length n ∙ row_long) ∙ rw (n, ← q) (sym is)

      kind : (account_at k d i).heading.kind ≡ (get_or d.headings i nobody).kind
      unfolding account_at
      kind = refl

      next : drop i (accounts k d) ≡ account_at k d i ∷ drop (i + 1) (accounts k d)
      next =
          let inside : i < length (accounts k d) = omega (arith, accounts_long k d) in
          rw (add-one i, ← accounts_at k d i h) (drop-cons (accounts k d) i no_account inside)

      pub pass_more : (r : Tally) → TallyWith t (get_or d.headings i nobody).kind (to_z w64 (of_z w64 e)) r → Pass (eul_by k s) (accounts k d) r (i + 1)
      pass_more r c =
          record {
            held = c.counted i p.held;
            sum = c.over (eul_by k s) (account_at k d i) (drop (i + 1) (accounts k d)) kind account ∙ rw next at p.sum;
          }
