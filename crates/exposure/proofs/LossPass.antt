-- The pass over the members that finds each one's loss and T.
use mathlib.Core.Path.{◌≡◌, refl, ap₂, ◌∙◌}
use mathlib.Core.List.{List, map, map-append}
use Prim.Native.Nat.{ℕ, ◌+◌, ◌*◌, ◌≤◌, ◌<◌}
use native.Mathlib.Numerals.{add-one}
use native.Mathlib.Omega.{arith}
use lib.IntN.{ℤ, nat_abs}
use lib.ListN.{length, take, set, length-set, replicate}
use lib.Seq.{take-suc-set}
use Rattle.std.specs.List.{range_with_len}
use Rattle.numbers.specs.Signed.{◌⁺}
use Rattle.numbers.specs.Sums.{Σ}
use Rattle.numbers.proofs.Signed.{⁺-abs}
use Rattle.numbers.proofs.Lists.{upto_more}
use Rattle.numbers.proofs.Sums.{Σ-snoc}
use Rattle.methodology.specs.Account.{Account, own_eul}
use Rattle.methodology.specs.Member.{accounts_of, member_eul, member_own, loss}
use Rattle.exposure.specs.declared.accounts.Accounts.{Accounts}
use Rattle.exposure.specs.AccountsIn.{accounts_in, most_eul}
use Rattle.exposure.specs.DayFigures.{LossesAre}
use Rattle.exposure.proofs.Left.{Left}

pub record LossPass (k : ℕ) (all : List Account) (each : List ℕ) (total i : ℕ) (a : Accounts) : Type 0 where
  pub place : Left k all i a
  pub long : length each ≡ 32
  pub bound : total ≤ most_eul * i
  pub each_are : take i each ≡ map (loss k all) (range_with_len 1 i)
  pub total_is : total ≡ Σ (range_with_len 1 i) (loss k all)

pub loss_none : {k : ℕ} {all : List Account} {a : Accounts} → Left k all 0 a → LossPass k all (replicate 32 0) 0 0 a
unfolding Σ
loss_none p = record { place = p; long = refl; bound = omega arith; each_are = refl; total_is = refl }

module _ {k : ℕ} {all : List Account} {each : List ℕ} {total i : ℕ} {a : Accounts} (p : LossPass k all each total i a) where
  -- the next member's loss e, from its own EUL
  module _ (own next : Accounts) (o : (own.k ≡ k) × (accounts_in own ≡ accounts_of (i + 1) all)) (r : ℤ) (e : ℕ)
      (is : r ≡ member_eul (own_eul own.k) (accounts_in own)) (near : nat_abs r ≤ most_eul) (gain : e ≡ r ⁺) where
    pub sum_small : total + e ≤ most_eul * (i + 1)
    sum_small = omega (arith, p.bound, ⁺-abs r)

    e_is : e ≡ loss k all (i + 1)
    unfolding loss member_own
    e_is = rw (gain, is, o.1, o.0)

    pub loss_more : i < 32 → Left k all (i + 1) next → LossPass k all (set each i e) (total + e) (i + 1) next
    loss_more h place =
        record {
          place = place;
          long = length-set each i e ∙ p.long;
          bound = sum_small;
          each_are = rw (upto_more i, map-append, ← p.each_are, ← e_is, add-one i) (take-suc-set each i e (omega (arith, p.long)));
          total_is = rw (upto_more i, Σ-snoc) (ap₂ ◌+◌ p.total_is e_is);
        }

  pub loss_all : (n : ℕ) → i ≤ n → n ≤ i → LossesAre n k all (record { each = each; total = total })
  loss_all n h g =
      let e : i ≡ n = omega arith in
      record { each = rw e at p.each_are; total = rw e at p.total_is }
