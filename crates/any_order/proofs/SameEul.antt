-- A member's EUL in another order of its accounts: each of its parts is a sum, or a sum of the two largest, over the accounts that pass a test,
-- and these are the same in another order. Numbers need not be carried along, since no part reads them: an account may do without.
use mathlib.Core.Path.{◌≡◌, refl, sym, ap, ◌∙◌, fun_ext}
use mathlib.Core.List.Permᴰ
use mathlib.Core.List.{List, map, map-map, Permᴰ}
use Prim.Native.Nat.{ℕ}
use lib.IntN.{ℤ}
use Rattle.numbers.specs.Signed.{◌⁺}
use Rattle.std.specs.List.{filter}
use Rattle.numbers.specs.Sums.{Σ}
use Rattle.numbers.proofs.Lists.{keep_perm, keep_map}
use Rattle.numbers.proofs.Sums.{Σ-perm, Σ-map, Σℤ-perm, Σℤ-map}
use Rattle.numbers.proofs.Sorting.{descending_perm}
use Rattle.methodology.specs.declared.Opening.{Opening}
use Rattle.methodology.specs.Account.{Account, own_eul, eul_under}
use Rattle.methodology.specs.Member.{is_house, is_client, is_r, is_aor_u, house_eul, half_of_clients, two_largest_of_r, part_b, part_c, member_eul}
use Rattle.methodology.specs.Member.{accounts_of, member_under, member_own, loss}
use Rattle.methodology.specs.Day.{total, group_sum, own_max_eul}
use Rattle.exposure.specs.declared.account.Scenario.{Scenario}
use Rattle.exposure.specs.declared.account.Scenario.TheVariants.{Own, Under}
use Rattle.exposure.specs.Scenario.{eul_by}
use Rattle.any_order.specs.AnyOrder.{kind_and_amounts, SameAccounts, SameDay}

pub in_any_order : (eul : Account → ℤ) (xs ys : List Account) → Permᴰ xs ys → member_eul eul xs ≡ member_eul eul ys
unfolding member_eul house_eul part_b half_of_clients two_largest_of_r part_c
in_any_order eul xs ys p =
    let clients : Σ (filter is_client xs) (λ a. eul a ⁺) ≡ Σ (filter is_client ys) (λ a. eul a ⁺) = Σ-perm (keep_perm is_client p) (λ a. eul a ⁺) in
    let rs = descending_perm (Permᴰ.map (λ (a : Account). eul a ⁺) (keep_perm is_r p)) in
    rw (Σℤ-perm (keep_perm is_house p) eul, clients, rs, Σ-perm (keep_perm is_aor_u p) (λ a. eul a ⁺))

-- ---- without member and number

abbrev unnumbered : ℕ × List ℤ × ℕ × ℕ → Account
unnumbered (kind, npvs, margin, extra) = record { heading = record { member = 0; number = 0; kind = kind }; npvs = npvs; margin = margin; extra = extra }

abbrev bare : Account → Account
bare a = unnumbered (kind_and_amounts a)

-- an EUL that reads neither
bare_lem : (eul : Account → ℤ) → ((a : Account) → eul (bare a) ≡ eul a) → (xs : List Account) → member_eul eul (map bare xs) ≡ member_eul eul xs
unfolding member_eul house_eul part_b half_of_clients two_largest_of_r part_c
bare_lem eul e xs =
    let same : (λ (a : Account). eul (bare a)) ≡ eul = fun_ext e in
    let gains : (λ (a : Account). eul (bare a) ⁺) ≡ (λ (a : Account). eul a ⁺) = ap {B = Account → ℕ} (λ (f : Account → ℤ) (a : Account). f a ⁺) same in
    rw (
      keep_map is_house bare xs,
      keep_map is_client bare xs,
      keep_map is_r bare xs,
      keep_map is_aor_u bare xs,
      Σℤ-map bare (filter is_house xs) eul,
      Σ-map bare (filter is_client xs) (λ a. eul a ⁺),
      map-map,
      Σ-map bare (filter is_aor_u xs) (λ a. eul a ⁺),
      same,
      gains,
    )

no_number_read : (k : ℕ) (s : Scenario) (a : Account) → eul_by k s (bare a) ≡ eul_by k s a
unfolding own_eul eul_under
no_number_read k Own a = refl
no_number_read k (Under j) a = refl

pub same_eul : (k : ℕ) (s : Scenario) (xs ys : List Account) → SameAccounts xs ys → member_eul (eul_by k s) xs ≡ member_eul (eul_by k s) ys
same_eul k s xs ys p =
    let eul = eul_by k s in
    let again : Permᴰ (map bare xs) (map bare ys) =
    rw (← map-map unnumbered kind_and_amounts xs, ← map-map unnumbered kind_and_amounts ys) (Permᴰ.map unnumbered p) in
    sym (bare_lem eul (no_number_read k s) xs) ∙ in_any_order eul (map bare xs) (map bare ys) again ∙ bare_lem eul (no_number_read k s) ys

-- ---- a day, of which every figure is made of its members' EULs

module _ (xs ys : List Account) (same : (m : ℕ) → SameAccounts (accounts_of m xs) (accounts_of m ys)) where
  losses : (k : ℕ) → loss k xs ≡ loss k ys
  unfolding loss member_own
  losses k = fun_ext (λ m. ap ◌⁺ (same_eul k Own (accounts_of m xs) (accounts_of m ys) (same m)))

  unders : member_under xs ≡ member_under ys
  unfolding member_under
  unders = fun_ext (λ m. fun_ext (λ j. same_eul 0 (Under j) (accounts_of m xs) (accounts_of m ys) (same m)))

  pub same_day : (o : Opening) → SameDay o xs ys
  unfolding total own_max_eul group_sum
  same_day o = record { losses = λ m. rw (losses o.k) refl; totals = rw (losses o.k) refl; own_max_euls = rw unders refl }
