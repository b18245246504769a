-- The table of places: the number of a place tells address, number and token; a table that grows keeps its places.
use Rattle.std.proofs.Common.{◌≡◌, ℕ, ◌+◌, ◌*◌, ◌/◌, ◌%◌, ◌≤◌, ◌<◌, List, [], ◌∷◌, ◌++◌, length, Some, slice_get, refl, ap, ◌∙◌, arith}
use Rattle.std.proofs.lemmas.Grind.{common_steps}
use Rattle.std.proofs.lemmas.Option.{gets}
use Rattle.bus_wire.specs.declared.seats.Seat.{Seat}
use Rattle.bus_wire.specs.declared.seats.TokenKind.{TokenKind}
use Rattle.bus_wire.specs.declared.seats.TokenKind.TheVariants.{In}
use Rattle.bus_wire.specs.Seats.{place_for, place_at, column_of, token_kind_at}

high_part : (addr num column : ℕ) → num ≤ 15 → column ≤ 3 → (addr * 64 + num * 4 + column) / 64 ≡ addr
high_part addr num column n c = omega arith

middle_part : (addr num column : ℕ) → num ≤ 15 → column ≤ 3 → (addr * 64 + num * 4 + column) / 4 % 16 ≡ num
middle_part addr num column n c = omega arith

low_part : (addr num column : ℕ) → column ≤ 3 → (addr * 64 + num * 4 + column) % 4 ≡ column
low_part addr num column c = omega arith

column_bound : (kind : TokenKind) → column_of kind ≤ 3
column_bound In = omega arith
column_bound _ = omega arith

column_back : (kind : TokenKind) → token_kind_at (column_of kind) ≡ kind
column_back In = refl
column_back _ = refl

pub place_by_number : (seats : List Seat) (addr num : ℕ) (kind : TokenKind) → num ≤ 15 → place_at seats (addr * 64 + num * 4 + column_of kind) ≡ place_for seats addr num kind
place_by_number seats addr num kind n =
    let c = column_bound kind in
    ap (λ a. place_for seats a ((addr * 64 + num * 4 + column_of kind) / 4 % 16) (token_kind_at ((addr * 64 + num * 4 + column_of kind) % 4))) (high_part addr num (column_of kind) n c)
    ∙ ap (λ m. place_for seats addr m (token_kind_at ((addr * 64 + num * 4 + column_of kind) % 4))) (middle_part addr num (column_of kind) n c)
    ∙ ap (λ k. place_for seats addr num (token_kind_at k)) (low_part addr num (column_of kind) c)
    ∙ ap (λ k. place_for seats addr num k) (column_back kind)

pub number_bound : (addr num : ℕ) (kind : TokenKind) → addr ≤ 127 → num ≤ 15 → addr * 64 + num * 4 + column_of kind < 8192
number_bound addr num kind a n = let c = column_bound kind in omega arith

pub get_pushed : {X : Type 0} → (f : ℕ → X) (xs : List X) (n : ℕ) → length xs ≡ n → ((k : ℕ) → k < n → slice_get xs k ≡ Some (f k)) → (k : ℕ) → k < n + 1 → slice_get (xs ++ f n ∷ []) k ≡ Some (f k)
get_pushed f xs n len each k h = grind (arith, common_steps, gets, each k)
