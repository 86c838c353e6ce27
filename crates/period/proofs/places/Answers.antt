-- `places` meets its contract: past the list stands 0, as past the end of a list.
use Rattle.std.specs.List.{range_with_len}
use Rattle.std.proofs.Common.{◌≡◌, List, [], ◌∷◌, ◌++◌, map, ℕ, zero, suc, ◌-◌, ◌≤◌, length, get_or, drop, replicate, refl, ap, ◌∙◌, arith, length-append}
use Rattle.std.proofs.lemmas.List.{drop-replicate, length-replicate}
use Rattle.std.proofs.lemmas.List.FromFn.{fill_by_all}
use Rattle.numbers.proofs.Lists.{replicate_at}
use Rattle.period.proofs.places.Goals as goal

filled_at : (xs : List ℕ) (m i : ℕ) → get_or (xs ++ replicate m 0) i 0 ≡ get_or xs i 0
filled_at [] m i = replicate_at m i 0
filled_at (x ∷ xs) m zero = refl
filled_at (x ∷ xs) m (suc i) = filled_at xs m i

filled : (n : ℕ) (xs : List ℕ) → length xs ≤ n → xs ++ drop (length xs) (replicate n 0) ≡ map (λ i. get_or xs i 0) (range_with_len 0 n)
filled n xs h =
    rw drop-replicate
    (fill_by_all (λ i. get_or xs i 0) (xs ++ replicate (n - length xs) 0) n 0 (omega (arith, length-append xs (replicate (n - length xs) 0), length-replicate {A = ℕ} (n - length xs) 0))
    (λ i k. filled_at xs (n - length xs) i))

pub returns : goal.returns
returns c = ap (λ (xs : List ℕ). xs ++ drop (length c.args.list.now) (replicate 32 0)) c.copy_from_slice.ensures.after ∙ filled 32 c.args.list.now c.requires
