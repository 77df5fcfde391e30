-- Characters that are put once more by blocks, before they are looked at.
use Rattle.trac_space.proofs.Imports.{◌≡◌, ℕ, ◌+◌, ◌-◌, ◌≤◌, Bool, true, false, List, length, drop, arith, rules, copy_within, places, same_lists, paste}
use Rattle.trac_space.specs.Apart.{IsApart}

-- the first k cells are there
pub copied-first : {X : Type 0} (was after : List X) (start to k : ℕ) → start + k ≤ length was → to + k ≤ length was → after ≡ copy_within was start (start + k) to → after ≡ paste was to (drop start was) k
copied-first was after start to k whole within moved =
    rw moved (same_lists _ _ (search (rules, places)) (λ i d less. grind (arith, places)))

-- the first k and the last m of n cells are all of them
pub record AreAll (k m n : ℕ) : Type 0 where
  pub first : k ≤ n
  pub last : m ≤ n
  pub all : n ≤ k + m

-- cells of a list are put once more from place `to` on: `now` has some of them there, and `after` more
module _ {X : Type 0} (was now after : List X) (start to : ℕ) where
  -- to a place before: k cells are there, and n more follow
  pub carried-on : (k n : ℕ) → to ≤ start → start + (k + n) ≤ length was → now ≡ paste was to (drop start was) k → after ≡ copy_within now (start + k) (start + (k + n)) (to + k) → after ≡ paste was to (drop start was) (k + n)
  carried-on k n before within is moved =
      rw (moved, is) (same_lists _ _ (search (rules, places)) (λ i d less. grind (arith, places)))

  -- to a place before: k cells are there, and the last m follow, of which some may be there
  pub carried-last : (k m n : ℕ) → AreAll k m n → to + m ≤ start → start + n ≤ length was → now ≡ paste was to (drop start was) k → after ≡ copy_within now (start + (n - m)) (start + (n - m) + m) (to + (n - m)) → after ≡ copy_within was start (start + n) to
  carried-last k m n are apart within is moved =
      rw (moved, is) (same_lists _ _ (search (rules, places)) (λ i d less. grind (arith, places, are.first, are.last, are.all)))

  -- to a place apart: the first k cells are there, and the last k follow, of which some may be there
  pub copied-halves : (higher : Bool) (k n : ℕ) → AreAll k k n → start + n ≤ length was → to + n ≤ length was → IsApart higher start n to → now ≡ paste was to (drop start was) k → after ≡ copy_within now (start + (n - k)) (start + (n - k) + k) (to + (n - k)) → after ≡ copy_within was start (start + n) to
  copied-halves true k n are whole within apart is moved =
      rw (moved, is) (same_lists _ _ (search (rules, places)) (λ i d less. grind (arith, places, are.first, are.all)))
  copied-halves false k n are whole within apart is moved =
      carried-last k k n are (omega (arith, are.first)) whole is moved

  -- to a place behind: the cells from one place on are there, and n before them follow
  pub copied-up : (all left n : ℕ) → start ≤ to → to + all ≤ length was → left ≤ all → n ≤ left → now ≡ paste was (to + left) (drop (start + left) was) (all - left) → after ≡ copy_within now (start + (left - n)) (start + left) (to + (left - n)) → after ≡ paste was (to + (left - n)) (drop (start + (left - n)) was) (all - (left - n))
  copied-up all left n behind room within few is moved =
      rw (moved, is) (same_lists _ _ (search (rules, places)) (λ i d less. grind (arith, places)))

  -- to a place behind: the cells from one place on are there, and the first m follow, of which some may be there
  pub cleared-last : (left m n : ℕ) → left ≤ m → m ≤ n → start + m ≤ to → to + n ≤ length was → now ≡ paste was (to + left) (drop (start + left) was) (n - left) → after ≡ copy_within now start (start + m) to → after ≡ copy_within was start (start + n) to
  cleared-last left m n some few apart within is moved =
      rw (moved, is) (same_lists _ _ (search (rules, places)) (λ i d less. grind (arith, places)))

-- of ranges that are apart the first m cells are, and the last
pub first-apart : (higher : Bool) (start to m n : ℕ) → m ≤ n → IsApart higher start n to → IsApart higher start m to
first-apart true start to m n few apart = omega arith
first-apart false start to m n few apart = omega arith

pub last-apart : (higher : Bool) (start to m n : ℕ) → m ≤ n → IsApart higher start n to → IsApart higher (start + (n - m)) m (to + (n - m))
last-apart true start to m n few apart = omega arith
last-apart false start to m n few apart = omega arith
