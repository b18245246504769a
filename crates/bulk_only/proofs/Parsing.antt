-- Bytes as commands, one after the other.
use Rattle.std.proofs.Common.{rules, ◌≡◌, ◌≤◌, ℕ, zero, suc, Bool, true, false, nat_le, List, [], ◌∷◌, length, drop, Option, Some, None, option_map, refl, ap, sym, subst, ◌∙◌, arith, length-drop, if◌then◌else◌}
use Rattle.std.proofs.lemmas.Bool.{leb-true, leb-false}
use Rattle.bulk_only.specs.declared.command_block.CommandBlock.{CommandBlock}
use Rattle.bulk_only.specs.declared.command_block.Operation.{Operation}
use Rattle.bulk_only.specs.declared.command_block.Operation.TheVariants.{Read, Write}
use Rattle.bulk_only.specs.Blocks.{command_of, data_length}
use Rattle.bulk_only.specs.Commands.{DiskCommand, first_command, block_of, with_room, whole_block, with_data, size_of, follows, commands_in, commands_of, rest_in, rest_of, could_go_on, written_by}
use Rattle.bulk_only.specs.Fronts.{is_front}
use Rattle.bulk_only.proofs.Allowed.{at_most_40}

pub chosen : (b : Bool) (x c : CommandBlock) → (if b then Some x else None) ≡ Some c → (b ≡ true) × (x ≡ c)
chosen true x c h = (refl, cc)
chosen false x c h = absurd (search rules)

has_by : (n : ℕ) (o : Option CommandBlock) (c : CommandBlock) → with_room n o ≡ Some c → size_of c ≤ n
has_by n None c h = absurd (search rules)
has_by n (Some x) c h =
    let k = chosen (nat_le (size_of x) n) x c h in
    subst (λ (t : CommandBlock). size_of t ≤ n) k.1 (leb-true (size_of x) n k.0)

-- a whole command has all its bytes there
pub whole_has : (bs : List ℕ) (c : CommandBlock) → whole_block bs ≡ Some c → size_of c ≤ length bs
whole_has bs c h = has_by (length bs) (block_of bs) c h

pub nothing_is_no_block : whole_block [] ≡ None
unfolding block_of
nothing_is_no_block = refl

pub first_is : (bs : List ℕ) (c : CommandBlock) → whole_block bs ≡ Some c → first_command bs ≡ Some (with_data bs c)
unfolding first_command
first_is bs c h = ap (option_map (with_data bs)) h

pub first_none : (bs : List ℕ) → whole_block bs ≡ None → first_command bs ≡ None
unfolding first_command
first_none bs h = ap (option_map (with_data bs)) h

one_more : (n : ℕ) (bs : List ℕ) (c : DiskCommand) → first_command bs ≡ Some c → commands_in (suc n) bs ≡ c ∷ commands_in n (drop (size_of c.block) bs)
unfolding commands_in
one_more n bs c h = ap (λ o. elim o as (λ x. List DiskCommand) [ None ↦ [] | Some d ↦ d ∷ commands_in n (drop (size_of d.block) bs) ]) h

no_more : (n : ℕ) (bs : List ℕ) → first_command bs ≡ None → commands_in n bs ≡ []
unfolding commands_in
no_more zero bs h = refl
no_more (suc n) bs h = ap (λ o. elim o as (λ x. List DiskCommand) [ None ↦ [] | Some d ↦ d ∷ commands_in n (drop (size_of d.block) bs) ]) h

rest_more : (n : ℕ) (bs : List ℕ) (c : DiskCommand) → first_command bs ≡ Some c → rest_in (suc n) bs ≡ rest_in n (drop (size_of c.block) bs)
unfolding rest_in
rest_more n bs c h = ap (λ o. elim o as (λ x. List ℕ) [ None ↦ bs | Some d ↦ rest_in n (drop (size_of d.block) bs) ]) h

rest_stays : (n : ℕ) (bs : List ℕ) → first_command bs ≡ None → rest_in n bs ≡ bs
unfolding rest_in
rest_stays zero bs h = refl
rest_stays (suc n) bs h = ap (λ o. elim o as (λ x. List ℕ) [ None ↦ bs | Some d ↦ rest_in n (drop (size_of d.block) bs) ]) h

-- how bytes begin
pub data Begins (bs : List ℕ) : Type 0 where
  Whole : (c : CommandBlock) → whole_block bs ≡ Some c → Begins bs
  Part : whole_block bs ≡ None → Begins bs

begins_by : (bs : List ℕ) (o : Option CommandBlock) → whole_block bs ≡ o → Begins bs
begins_by bs (Some c) h = Whole c h
begins_by bs None h = Part h

pub begins : (bs : List ℕ) → Begins bs
begins bs = begins_by bs (whole_block bs) refl

-- behind a whole command there are fewer bytes
pub fewer_left : (bs : List ℕ) (c : CommandBlock) (n : ℕ) → whole_block bs ≡ Some c → length bs ≤ suc n → length (drop (size_of c) bs) ≤ n
fewer_left bs c n e h = let k = whole_has bs c e in rw (length-drop (size_of c) bs) (omega arith)

-- bounds that are large enough give the same
fuel : (n m : ℕ) (bs : List ℕ) → length bs ≤ n → length bs ≤ m → commands_in n bs ≡ commands_in m bs
fuel zero m [] h k = no_more zero [] (first_none [] nothing_is_no_block) ∙ sym (no_more m [] (first_none [] nothing_is_no_block))
fuel zero m (b ∷ bs) h k = absurd (omega arith)
fuel (suc n) zero [] h k = no_more (suc n) [] (first_none [] nothing_is_no_block) ∙ sym (no_more zero [] (first_none [] nothing_is_no_block))
fuel (suc n) zero (b ∷ bs) h k = absurd (omega arith)
fuel (suc n) (suc m) bs h k = elim (begins bs) [
  | Whole c e ↦ one_more n bs (with_data bs c) (first_is bs c e)
      ∙ ap (λ t. with_data bs c ∷ t) (fuel n m (drop (size_of c) bs) (fewer_left bs c n e h) (fewer_left bs c m e k))
      ∙ sym (one_more m bs (with_data bs c) (first_is bs c e))
  | Part e ↦ no_more (suc n) bs (first_none bs e) ∙ sym (no_more (suc m) bs (first_none bs e))
]

rest_fuel : (n m : ℕ) (bs : List ℕ) → length bs ≤ n → length bs ≤ m → rest_in n bs ≡ rest_in m bs
rest_fuel zero m [] h k = rest_stays zero [] (first_none [] nothing_is_no_block) ∙ sym (rest_stays m [] (first_none [] nothing_is_no_block))
rest_fuel zero m (b ∷ bs) h k = absurd (omega arith)
rest_fuel (suc n) zero [] h k = rest_stays (suc n) [] (first_none [] nothing_is_no_block) ∙ sym (rest_stays zero [] (first_none [] nothing_is_no_block))
rest_fuel (suc n) zero (b ∷ bs) h k = absurd (omega arith)
rest_fuel (suc n) (suc m) bs h k = elim (begins bs) [
  | Whole c e ↦ rest_more n bs (with_data bs c) (first_is bs c e)
      ∙ rest_fuel n m (drop (size_of c) bs) (fewer_left bs c n e h) (fewer_left bs c m e k)
      ∙ sym (rest_more m bs (with_data bs c) (first_is bs c e))
  | Part e ↦ rest_stays (suc n) bs (first_none bs e) ∙ sym (rest_stays (suc m) bs (first_none bs e))
]

-- a whole command, and those behind it
pub record Follows (bs : List ℕ) (c : CommandBlock) : Type 0 where
  pub whole : size_of c ≤ length bs
  pub commands : commands_of bs ≡ with_data bs c ∷ commands_of (drop (size_of c) bs)
  pub rest : rest_of bs ≡ rest_of (drop (size_of c) bs)

step_by : (n : ℕ) (bs : List ℕ) (c : CommandBlock) → length bs ≡ n → whole_block bs ≡ Some c → Follows bs c
step_by zero bs c l e = absurd (omega (arith, whole_has bs c e))
step_by (suc n) bs c l e =
    let big = whole_has bs c e in
    let short = fewer_left bs c n e (omega arith) in
    record {
      whole = big;
      commands = ap (λ t. commands_in t bs) l ∙ one_more n bs (with_data bs c) (first_is bs c e)
          ∙ ap (λ t. with_data bs c ∷ t) (fuel n (length (drop (size_of c) bs)) (drop (size_of c) bs) short (omega arith));
      rest = ap (λ t. rest_in t bs) l ∙ rest_more n bs (with_data bs c) (first_is bs c e)
          ∙ rest_fuel n (length (drop (size_of c) bs)) (drop (size_of c) bs) short (omega arith);
    }

pub more_commands : (bs : List ℕ) (c : CommandBlock) → whole_block bs ≡ Some c → Follows bs c
more_commands bs c e = step_by (length bs) bs c refl e

pub no_commands : (bs : List ℕ) → whole_block bs ≡ None → commands_of bs ≡ []
no_commands bs e = no_more (length bs) bs (first_none bs e)

pub all_rest : (bs : List ℕ) → whole_block bs ≡ None → rest_of bs ≡ bs
all_rest bs e = rest_stays (length bs) bs (first_none bs e)

-- the rest is no whole command
rest_part_in : (n : ℕ) (bs : List ℕ) → length bs ≤ n → whole_block (rest_of bs) ≡ None
rest_part_in zero [] h = subst (λ t. whole_block t ≡ None) (sym (all_rest [] nothing_is_no_block)) nothing_is_no_block
rest_part_in zero (b ∷ bs) h = absurd (omega arith)
rest_part_in (suc n) bs h = elim (begins bs) [
  | Whole c e ↦ subst (λ t. whole_block t ≡ None) (sym (more_commands bs c e).rest) (rest_part_in n (drop (size_of c) bs) (fewer_left bs c n e h))
  | Part e ↦ subst (λ t. whole_block t ≡ None) (sym (all_rest bs e)) e
]

pub rest_part : (bs : List ℕ) → whole_block (rest_of bs) ≡ None
rest_part bs = rest_part_in (length bs) bs (omega arith)

not_chosen : (b : Bool) (x : CommandBlock) → (if b then Some x else None) ≡ None → b ≡ false
not_chosen true x h = absurd (search rules)
not_chosen false x h = refl

written_at_most : (o : Operation) (n : ℕ) → written_by o n ≤ n
written_at_most Read n = omega arith
written_at_most Write n = omega arith

follows_at_most : (c : CommandBlock) → follows c ≤ data_length c
follows_at_most c = written_at_most c.operation (data_length c)

short_of : (n : ℕ) (c : CommandBlock) → c.blocks ≤ 40 → with_room n (Some c) ≡ None → n ≤ 20510
short_of n c few e =
    let k = leb-false (size_of c) n (not_chosen (nat_le (size_of c) n) c e) in
    let most = follows_at_most c in
    omega (arith, k, most, few)

-- a front part of a command is shorter than the longest command
short_by : (bs : List ℕ) → whole_block bs ≡ None → is_front bs ≡ true → (b : Bool) → nat_le 31 (length bs) ≡ b → length bs ≤ 20510
unfolding block_of
short_by bs e f false h = let k = leb-false 31 (length bs) h in omega arith
short_by bs e f true h =
    let is : block_of bs ≡ Some (command_of bs) = rw h (rw f refl) in
    let none : with_room (length bs) (Some (command_of bs)) ≡ None = ap (with_room (length bs)) (sym is) ∙ e in
    short_of (length bs) (command_of bs) (at_most_40 bs (leb-true 31 (length bs) h) f) none

pub part_is_short : (bs : List ℕ) → whole_block bs ≡ None → is_front bs ≡ true → length bs ≤ 20510
part_is_short bs e f = short_by bs e f (nat_le 31 (length bs)) refl

pub rest_is_short : (bs : List ℕ) → could_go_on bs ≡ true → length (rest_of bs) ≤ 20510
rest_is_short bs h = part_is_short (rest_of bs) (rest_part bs) h
