-- A refusal table that lets a call pass: none of its rows held; what a test of limits leaves; what a call answers and writes by the table;
-- and what holds of one of two, as a call is accepted or a test holds.
use mathlib.Core.Path.{◌≡◌, refl}
use mathlib.Core.Bool.{Bool, true, false, cond}
use mathlib.Core.List.{List, []}
use Prim.Native.Nat.{ℕ, ◌≤◌, ◌<◌}
use native.Mathlib.Omega.{arith}
use lib.Dec.{ltb, leb}
use borrow.Author.Tests.{ltb-false, leb-false}
use Rattle.numbers.proofs.Tests.{neither}
use Rattle.methodology.specs.declared.Status.TheVariants.{Open}
use Rattle.methodology.specs.declared.Opening.{Opening}
use Rattle.methodology.specs.declared.Refusal.{Refusal}
use Rattle.std.specs.Prelude.{Ok, Err}
use Rattle.methodology.specs.Refusals.{Verdict, clear, row◌when◌else◌, outside, bad_day_number}
use Rattle.methodology.specs.Register.{Call, Register, refusal, accept, if_accepted, step, returned, written, answer_by, answer, buffer}

pub passed : (met : Refusal) (b : Bool) (rest : Verdict) → row met when b else rest ≡ clear → (b ≡ false) × (rest ≡ clear)
unfolding row◌when◌else◌
passed met true rest e = let z : ◌≡◌ {A = ℕ} 0 1 = cc in absurd (omega arith)
passed met false rest e = (refl, e)

-- the register after a call that no row refuses
pub step_clear : (g : Register) (c : Call) → refusal g c ≡ clear → step g c ≡ accept g c
unfolding step
step_clear g c e = rw e

-- an accepted opening is all that the register holds after it
pub opened_anew : (g : Register) (o : Opening) → refusal g (Call.opening o) ≡ clear → step g (Call.opening o) ≡ record { status = Open; held = o; days = [] }
unfolding accept
opened_anew g o e = step_clear g (Call.opening o) e

-- figures and written numbers are an accepted call's, so they go by the register as acceptance leaves it
pub answer_is : (g : Register) (c : Call) → answer g c ≡ answer_by (refusal g c) (returned (accept g c) c)
unfolding answer step
answer_is g c = by (refusal g c)
  where
    by : (x : Verdict) → answer_by x (returned (if_accepted x (accept g c) g) c) ≡ answer_by x (returned (accept g c) c)
    by (Ok _) = refl
    by (Err met) = refl

pub buffer_is : (g : Register) (c : Call) (before : List ℕ) → buffer g c before ≡ if_accepted (refusal g c) (written (accept g c) c) before
unfolding buffer step
buffer_is g c before = by (refusal g c)
  where
    by : (x : Verdict) → if_accepted x (written (if_accepted x (accept g c) g) c) before ≡ if_accepted x (written (accept g c) c) before
    by (Ok _) = refl
    by (Err met) = refl

-- what holds of both ways holds of the one that is taken
pub either : {A : Type 0} (P : A → Type 0) (x : Verdict) (a b : A) → (x ≡ clear → P a) → P b → P (if_accepted x a b)
either P (Ok _) a b f h = f refl
either P (Err met) a b f h = h

pub by_test : {A : Type 0} (P : A → Type 0) (b : Bool) (x y : A) → (b ≡ true → P x) → (b ≡ false → P y) → P (cond b x y)
by_test P true x y f g = f refl
by_test P false x y f g = g refl

-- a number that is not outside its limits
pub inside : (least most x : ℕ) → outside least most x ≡ false → (least ≤ x) × (x ≤ most)
inside least most x e =
    let (low, high) = neither (ltb x least) (ltb most x) e in
    (ltb-false x least low, ltb-false most x high)

-- a day number that row 3 lets pass
pub number_rises : (last number : ℕ) → bad_day_number last number ≡ false → (number ≤ 31) × (last < number)
unfolding bad_day_number
number_rises last number e =
    let (a, b) = neither (outside 1 31 number) (leb number last) e in
    ((inside 1 31 number a).1, leb-false number last b)
