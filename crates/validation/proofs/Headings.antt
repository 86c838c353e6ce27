-- Row 5: the search for the first bad heading, and what the row leaves of each heading.
-- The search says what is left: the first bad heading is i further on than that of the headings from i on.
use mathlib.Core.Path.{◌≡◌, refl}
use mathlib.Core.Bool.{Bool, true, false, cond}
use mathlib.Core.List.{List, [], ◌∷◌}
use Prim.Native.Nat.{ℕ, zero, suc, ◌+◌, ◌≤◌, ◌<◌}
use native.Mathlib.Nat.{not-suc-le-zero, le_of_suc-le-suc}
use native.Mathlib.Numerals.{add-one}
use native.Mathlib.Omega.{arith}
use lib.ListN.{length, get_or, drop}
use lib.Seq.{drop-cons}
use Rattle.std.proofs.lemmas.Bool.Decides.{nat_tests}
use Rattle.methodology.specs.declared.Heading.{Heading}
use Rattle.methodology.specs.declared.Opening.{Opening}
use Rattle.methodology.specs.Account.{present, nobody, kind_h, kind_u}
use Rattle.methodology.specs.Refusals.{passed_over, bad_heading, first_bad_heading}

-- the search: one heading further, at a bad one, and at the end
module _ (o : Opening) (number : ℕ) (hs : List Heading) (prev : Heading) (i : ℕ)
    (left : first_bad_heading o number nobody hs ≡ i + first_bad_heading o number prev (drop i hs)) where
  pub search_more : i < length hs → bad_heading o number prev (get_or hs i nobody) ≡ false
      → first_bad_heading o number nobody hs ≡ (i + 1) + first_bad_heading o number (get_or hs i nobody) (drop (i + 1) hs)
  unfolding first_bad_heading
  search_more l e =
      let one : first_bad_heading o number prev (drop i hs) ≡ suc (first_bad_heading o number (get_or hs i nobody) (drop (suc i) hs)) =
      rw (drop-cons hs i nobody l, e) in
      rw add-one (omega arith)

  pub search_stop : i < length hs → bad_heading o number prev (get_or hs i nobody) ≡ true → first_bad_heading o number nobody hs ≡ i
  unfolding first_bad_heading
  search_stop l e =
      let here : first_bad_heading o number prev (drop i hs) ≡ 0 = rw (drop-cons hs i nobody l, e) in
      omega arith

-- what row 5 leaves of a heading, and of each of a list; no index is past the last
pub record Fine (o : Opening) (number : ℕ) (prev h : Heading) : Type 0 where
  pub least : 1 ≤ h.member
  pub most : h.member ≤ o.n
  pub there : present o number h.member ≡ true
  pub rising : prev.member ≤ h.member
  pub none_over : passed_over o number prev.member h.member ≡ false
  pub house : prev.member < h.member → h.kind ≡ kind_h
  pub kind : h.kind ≤ kind_u

pub fine : (o : Opening) (number : ℕ) (prev h : Heading) → bad_heading o number prev h ≡ false → Fine o number prev h
unfolding bad_heading
fine o number prev h e =
    record {
      least = grind (arith, nat_tests);
      most = grind (arith, nat_tests);
      there = grind (arith, nat_tests);
      rising = grind (arith, nat_tests);
      none_over = grind (arith, nat_tests);
      house = grind (arith, nat_tests);
      kind = grind (arith, nat_tests);
    }

-- the heading at i and the one before it
pub all_good : (o : Opening) (number : ℕ) (prev : Heading) (hs : List Heading) → first_bad_heading o number prev hs ≡ length hs → (i : ℕ) → i < length hs
    → bad_heading o number (get_or (prev ∷ hs) i nobody) (get_or hs i nobody) ≡ false
unfolding first_bad_heading
all_good o number prev [] e i l = absurd (not-suc-le-zero l)
all_good o number prev (h ∷ hs) e i l = by (bad_heading o number prev h) refl e i l (all_good o number h hs)
  where
    by : (t : Bool) → bad_heading o number prev h ≡ t → cond t 0 (suc (first_bad_heading o number h hs)) ≡ suc (length hs) → (i : ℕ) → i < suc (length hs)
        → (first_bad_heading o number h hs ≡ length hs → (j : ℕ) → j < length hs → bad_heading o number (get_or (h ∷ hs) j nobody) (get_or hs j nobody) ≡ false)
        → bad_heading o number (get_or (prev ∷ h ∷ hs) i nobody) (get_or (h ∷ hs) i nobody) ≡ false
    by true q e i l f = let no_way : ⊥ = omega arith in absurd no_way
    by false q e zero l f = q
    by false q e (suc i) l f = f (omega arith) i (le_of_suc-le-suc l)

-- and what is left of each where none is bad
pub all_fine : (o : Opening) (number : ℕ) (hs : List Heading) → first_bad_heading o number nobody hs ≡ length hs → (i : ℕ) → i < length hs
    → Fine o number (get_or (nobody ∷ hs) i nobody) (get_or hs i nobody)
all_fine o number hs e i l = fine o number _ _ (all_good o number nobody hs e i l)
