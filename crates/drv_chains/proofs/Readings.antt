-- A boundary is seen where two readings differ.
use Rattle.std.proofs.Common.{◌≡◌, ℕ, Bool, true, false, not, List, [], ◌∷◌, nat_eq, if◌then◌else◌, refl}
use Rattle.std.specs.Prelude.{◌||◌}
use Rattle.std.specs.List.{list_any}
use Rattle.drv_chains.specs.declared.boundary.Boundary.TheVariants.{Unread, Since, Seen}
use Rattle.drv_chains.specs.Boundary.{frame_number, after_readings, is_seen, differ}

stays_seen : (ns : List ℕ) → is_seen (after_readings ns Seen) ≡ true
unfolding after_readings
stays_seen [] = refl
stays_seen (n ∷ ns) = stays_seen ns

same_or_other : (first : ℕ) (ns : List ℕ) (b : Bool) → is_seen (after_readings ns (Since first)) ≡ list_any (λ m. not (nat_eq (frame_number m) first)) ns → is_seen (after_readings ns (if b then Since first else Seen)) ≡ (not b || list_any (λ m. not (nat_eq (frame_number m) first)) ns)
same_or_other first ns true h = h
same_or_other first ns false h = stays_seen ns

since_first : (first : ℕ) (ns : List ℕ) → is_seen (after_readings ns (Since first)) ≡ list_any (λ m. not (nat_eq (frame_number m) first)) ns
unfolding after_readings
since_first first [] = refl
since_first first (n ∷ ns) = same_or_other first ns (nat_eq (frame_number n) first) (since_first first ns)

pub seen_is : (ns : List ℕ) → is_seen (after_readings ns Unread) ≡ differ ns
unfolding after_readings
seen_is [] = refl
seen_is (n ∷ ns) = since_first (frame_number n) ns
