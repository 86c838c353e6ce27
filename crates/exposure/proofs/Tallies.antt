-- One account more: what each kind does to the tally, and to the member's EUL over whatever follows. Only one part of it moves.
use mathlib.Core.Path.{◌≡◌, refl, sym, ap, subst, ◌∙◌}
use mathlib.Core.Bool.{Bool, true, false, ◌||◌, cond}
use mathlib.Core.List.{List, [], ◌∷◌, map}
use Prim.Native.Nat.{ℕ, ◌+◌, ◌-◌, ◌*◌, ◌/◌, ◌≤◌, ◌<◌, min, max}
use native.Mathlib.Decide.{ℕ_discrete}
use native.Mathlib.Nat.{add_assoc}
use native.Mathlib.Omega.{arith}
use lib.Dec.{ltb, eqb}
use lib.IntN.{ℤ, pos, nat_abs, ◌+ℤ◌, +ℤ_assoc, +ℤ_idr}
use lib.ListN.{take}
use borrow.Author.Tests.{ltb-true, ltb-false, ne_eqb}
use mir.Syntax.{w64}
use mir.Val.{SFits}
use Rattle.numbers.specs.Signed.{◌⁺}
use Rattle.std.specs.List.{filter}
use Rattle.std.specs.Int.{div_ceil}
use Rattle.numbers.specs.Lists.{descending}
use Rattle.numbers.specs.Sums.{Σ, Σℤ, greatest}
use Rattle.numbers.specs.Rounding.{ceil_div}
use Rattle.numbers.proofs.Signed.{⁺-abs, abs_add, fits_abs}
use Rattle.numbers.proofs.Lists.{keep_cons, keep_cons_skip}
use Rattle.numbers.proofs.Sorting.{two_largest}
use Rattle.methodology.specs.Account.{Account, kind_h, kind_r, kind_a, kind_u}
use Rattle.methodology.specs.Member.{is_house, is_client, is_r, is_aor_u, house_eul, two_largest_of_r, part_c}
use Rattle.methodology.specs.Refusals.{limit}
use Rattle.exposure.specs.declared.member.Tally.{Tally}
use Rattle.exposure.specs.Tally.{largest_of_r, eul_over, TallyOf, Small, TallyWith, Ended}

-- ranges
pub house_fits : {t : Tally} → Small t → SFits w64 t.house
house_fits {t} s = fits_abs t.house (omega arith)

pub gain_le : (e : ℤ) → nat_abs e ≤ 2 * limit → e ⁺ ≤ 2 * limit
gain_le e h = omega (arith, ⁺-abs e)

pub part_le : (f : Bool) (g : ℕ) → cond f g 0 ≤ g
part_le true g = omega arith
part_le false g = omega arith

-- the two largest of kind R, f and s, with g among them; l and w are the largest and the two largest of what follows. By where g stands
above : (f s g l w : ℕ) → s ≤ f → f < g → max (g + f) (max (g + l) w) ≡ max (f + s) (max (f + max g l) (max (g + l) w))
above f s g l w h k = omega arith

between : (f s g l w : ℕ) → s ≤ g → g ≤ f → max (f + g) (max (f + l) w) ≡ max (f + s) (max (f + max g l) (max (g + l) w))
between f s g l w h k = omega arith

under : (f s g l w : ℕ) → s ≤ f → g ≤ s → max (f + s) (max (f + l) w) ≡ max (f + s) (max (f + max g l) (max (g + l) w))
under f s g l w h k = omega arith

two_with : (f s g l w : ℕ) → s ≤ f → max (max f g + max s (min f g)) (max (max f g + l) w) ≡ max (f + s) (max (f + max g l) (max (g + l) w))
two_with f s g l w h = by (ltb f g) (ltb s g) refl refl
  where
    by : (a b : Bool) → ltb f g ≡ a → ltb s g ≡ b → max (max f g + max s (min f g)) (max (max f g + l) w) ≡ max (f + s) (max (f + max g l) (max (g + l) w))
    by true b p q =
        let k = ltb-true f g p in
        let m₁ : max f g ≡ g = omega arith in
        let m₂ : max s (min f g) ≡ f = omega arith in
        rw (m₁, m₂) (above f s g l w h k)
    by false true p q =
        let k = ltb-false f g p in
        let m₁ : max f g ≡ f = omega arith in
        let m₂ : max s (min f g) ≡ g = omega (arith, ltb-true s g q) in
        rw (m₁, m₂) (between f s g l w (omega (arith, ltb-true s g q)) k)
    by false false p q =
        let k = ltb-false s g q in
        let m₁ : max f g ≡ f = omega arith in
        let m₂ : max s (min f g) ≡ s = omega arith in
        rw (m₁, m₂) (under f s g l w h k)

module _ (t : Tally) (e : ℤ) (s : Small t) (b : nat_abs e ≤ 2 * limit) where
  pub sum_fits : SFits w64 (t.house +ℤ e)
  sum_fits = fits_abs (t.house +ℤ e) (omega (arith, abs_add t.house e))

  -- kind H
  abbrev with_house : Tally
  with_house = record { house = t.house +ℤ e; clients = t.clients; of_r = t.of_r; first = t.first; second = t.second }

  over_house : (eul : Account → ℤ) (a : Account) (rest : List Account) → a.heading.kind ≡ kind_h → eul a ≡ e → eul_over with_house eul rest ≡ eul_over t eul (a ∷ rest)
  unfolding eul_over house_eul two_largest_of_r largest_of_r part_c Σℤ
  over_house eul a rest q r =
      rw (keep_cons is_house a rest (rw q), keep_cons_skip is_client a rest (rw q), keep_cons_skip is_r a rest (rw q), keep_cons_skip is_aor_u a rest (rw q))
      (cc (r, +ℤ_assoc t.house e (Σℤ (filter is_house rest) eul)))

  pub house : TallyWith t kind_h e with_house
  house =
      record {
        counted = λ n h. record { all = omega (arith, h.all, abs_add t.house e); apart = h.apart; largest = h.largest; order = h.order };
        over = over_house;
      }

  -- kinds A and U
  abbrev with_other : Tally
  with_other = record { house = t.house; clients = t.clients + e ⁺; of_r = t.of_r; first = t.first; second = t.second }

  over_other : (eul : Account → ℤ) (a : Account) (rest : List Account) → is_house a ≡ false → is_r a ≡ false → is_aor_u a ≡ true → eul a ≡ e → eul_over with_other eul rest ≡ eul_over t eul (a ∷ rest)
  unfolding eul_over house_eul two_largest_of_r largest_of_r part_c Σ
  over_other eul a rest h₀ h₁ h₂ r =
      let c : ℕ = Σ (filter is_aor_u rest) (λ x. eul x ⁺) in
      let others : t.clients + e ⁺ - t.of_r + c ≡ t.clients - t.of_r + (e ⁺ + c) = omega (arith, s.apart) in
      rw (keep_cons_skip is_house a rest h₀, keep_cons is_client a rest (rw (h₁, h₂)), keep_cons_skip is_r a rest h₁, keep_cons is_aor_u a rest h₂, r)
      (cc (add_assoc t.clients (e ⁺) (Σ (filter is_client rest) (λ x. eul x ⁺)), others))

  two_or_three : (k : ℕ) → k ≤ kind_u → (k ≡ kind_h → ⊥) → (k ≡ kind_r → ⊥) → Dec (k ≡ kind_a) → (eqb k kind_a || eqb k kind_u) ≡ true
  two_or_three k h h₀ h₁ (yes p) = rw p
  two_or_three k h h₀ h₁ (no n) = let p : k ≡ kind_u = omega arith in rw p

  other : (k : ℕ) → k ≤ kind_u → (k ≡ kind_h → ⊥) → (k ≡ kind_r → ⊥) → TallyWith t k e with_other
  other k h h₀ h₁ =
      record {
        counted = λ n g. record { all = omega (arith, g.all, gain_le e b); apart = omega (arith, g.apart); largest = g.largest; order = g.order };
        over =
            λ eul a rest q r.
            over_other eul a rest
            (rw q (ne_eqb k kind_h h₀))
            (rw q (ne_eqb k kind_r h₁))
            (rw q (two_or_three k h h₀ h₁ (ℕ_discrete k kind_a)))
            r;
      }

  -- any client, where r is its positive EUL if it is of kind R, else 0
  abbrev with_client : (r : ℕ) → Tally
  with_client r =
      record {
        house = t.house;
        clients = t.clients + e ⁺;
        of_r = t.of_r + r;
        first = max t.first r;
        second = max t.second (min t.first r);
      }

  over_r : (eul : Account → ℤ) (a : Account) (rest : List Account) → a.heading.kind ≡ kind_r → eul a ≡ e → eul_over (with_client (e ⁺)) eul rest ≡ eul_over t eul (a ∷ rest)
  unfolding eul_over house_eul two_largest_of_r largest_of_r part_c Σ greatest
  over_r eul a rest q r =
      let rs = map (λ (x : Account). eul x ⁺) (filter is_r rest) in
      let same : t.clients + e ⁺ - (t.of_r + e ⁺) ≡ t.clients - t.of_r = omega arith in
      rw (keep_cons_skip is_house a rest (rw q), keep_cons is_client a rest (rw q), keep_cons is_r a rest (rw q), keep_cons_skip is_aor_u a rest (rw q), r, two_largest (e ⁺) rs, same)
      (cc (add_assoc t.clients (e ⁺) (Σ (filter is_client rest) (λ x. eul x ⁺)), two_with t.first t.second (e ⁺) (greatest rs (λ x. x)) (Σ (take 2 (descending rs)) (λ x. x)) s.order))

  client_r : TallyWith t kind_r e (with_client (e ⁺))
  client_r =
      record {
        counted = λ n g. record { all = omega (arith, g.all, gain_le e b); apart = omega (arith, g.apart); largest = omega (arith, g.largest, g.order); order = omega (arith, g.order) };
        over = over_r;
      }

  client_other : (k : ℕ) → k ≤ kind_u → (k ≡ kind_h → ⊥) → (k ≡ kind_r → ⊥) → TallyWith t k e (with_client 0)
  client_other k h h₀ h₁ =
      let m₁ : max t.first 0 ≡ t.first = omega arith in
      let m₂ : max t.second (min t.first 0) ≡ t.second = omega arith in
      let m₃ : t.of_r + 0 ≡ t.of_r = omega arith in
      rw (m₁, m₂, m₃) (other k h h₀ h₁)

  pub client : (k : ℕ) → k ≤ kind_u → (k ≡ kind_h → ⊥) → (r : ℕ) → r ≡ cond (eqb k kind_r) (e ⁺) 0 → TallyWith t k e (with_client r)
  client k h h₀ r q = by (ℕ_discrete k kind_r)
    where
      by : Dec (k ≡ kind_r) → TallyWith t k e (with_client r)
      by (yes p) =
          let z : r ≡ e ⁺ = q ∙ rw p in
          rw (p, z) client_r
      by (no n) =
          let z : r ≡ 0 = q ∙ rw (ne_eqb k kind_r n) in
          rw z (client_other k h h₀ n)

-- another name for the kind
pub at_kind : {t r : Tally} {e : ℤ} {k m : ℕ} → k ≡ m → TallyWith t m e r → TallyWith t k e r
at_kind {t} {r} {e} h c = subst (λ (n : ℕ). TallyWith t n e r) (sym h) c

-- no account is left: the EUL as the program adds it up, and its bound
module _ (t : Tally) where
  abbrev pub rest : ℕ
  rest = max (div_ceil t.clients 2) (t.first + t.second) + (t.clients - t.of_r)

  clients_part : (c q f s : ℕ) → q ≤ c → f + s ≤ q → max (div_ceil c 2) (f + s) + (c - q) ≤ c + (c + 1) / 2
  clients_part c q f s h k = omega arith

  bounded : (n : ℕ) → TallyOf t n → nat_abs (t.house +ℤ pos rest) ≤ 3 * limit * n
  bounded n h = omega (arith, h.all, clients_part t.clients t.of_r t.first t.second h.apart h.largest, abs_add t.house (pos rest))

  pub total_fits : Small t → SFits w64 (t.house +ℤ pos rest)
  total_fits s = fits_abs (t.house +ℤ pos rest) (omega (arith, bounded 256 s))

  none_left : (c f s o : ℕ) → max (div_ceil c 2) (f + s) + o ≡ max ((c + 0 + 1) / 2) (max (f + s) (max (f + 0) 0)) + (o + 0)
  none_left c f s o = omega arith

  is : (eul : Account → ℤ) → t.house +ℤ pos rest ≡ eul_over t eul []
  unfolding eul_over house_eul two_largest_of_r largest_of_r part_c Σ Σℤ greatest descending ceil_div
  is eul =
      let b : ℕ = max ((t.clients + 0 + 1) / 2) (max (t.first + t.second) (max (t.first + 0) 0)) in
      ap (λ (n : ℕ). t.house +ℤ pos n) (none_left t.clients t.first t.second (t.clients - t.of_r))
      ∙ sym (+ℤ_assoc t.house (pos b) (pos (t.clients - t.of_r + 0)))
      ∙ ap (λ (z : ℤ). z +ℤ pos b +ℤ pos (t.clients - t.of_r + 0)) (sym (+ℤ_idr t.house))

  pub ended : Ended t (t.house +ℤ pos rest)
  ended = record { is = is; bound = bounded }
