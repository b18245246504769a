-- The parts with all that was lent of a transfer.
use Rattle.std.proofs.Common.{◌≡◌, ◌≢◌, ℕ, zero, suc, ◌*◌, List, Some, option_map, ap, refl, sym, subst, ◌∙◌, ⊎_elim, inl, inr, arith}
use Rattle.std.specs.List.{AllByRecursion}
use Rattle.std.proofs.lemmas.Bool.{cases_eq}
use Rattle.word_mem.specs.Memory.{Mem}
use Rattle.claims_driver.specs.Owners.{Owner, FrameList, QueueHead, Buffer, IsPlaced, ArePieces, EndpointRuns, TransferRuns, Views, AreOwned, IsPieceOf}
use Rattle.law_structures.specs.lent_structures.Structures.{Structure, Buffer as BufferOf, Structures, StructureSets}
use Rattle.law_ring.specs.Together.{put_all, AreBeside}
use Rattle.law_ring.proofs.Joining.{all_beside, all_else}
use Rattle.law_driver_ring.specs.Inventory.{Sort, sort_of, sorts_of, OfBuffer, IsLent, IsDriverOwned, the_list, the_head, a_queue, a_dummy, a_piece, a_buffer, IsDriven}
use Rattle.law_driver_ring.specs.Written.{AreAllApart}
use Rattle.law_driver_ring.specs.Pieces.{NamesRun, NamesLent}
use Rattle.law_driver_ring.proofs.Lists.{IsOneOf}
use Rattle.law_driver_ring.proofs.Lots.{Lot, items, all_runs, NamesOne, IsLot, each_named, IsItem, all_here}
use Rattle.law_driver_ring.proofs.TransferOwning.{IsLentOn, not_taken, not_owned, SamePlaces}

-- ---- the premises

pub record IsJoining (v w : Views) (owner : ℕ → Owner) (t : ℕ) (y : TransferRuns) (x : EndpointRuns) (taken : List ℕ) (after : Mem) (parts : StructureSets) (ls : List Lot) : Type 0 where
  pub on : IsLentOn v w owner t y x taken
  pub driven : IsDriven v (sorts_of parts)
  pub each : AllByRecursion (IsLot v.slot after) ls
  pub runs : all_runs ls ≡ taken
  pub apart : AreAllApart taken
  pub names : NamesLent v.slot (parts (32 * x.queue))

abbrev pub joined_parts : StructureSets → EndpointRuns → List Lot → StructureSets
joined_parts parts x ls = put_all parts (32 * x.queue) (items ls)

-- ---- new names

-- nothing stood there
pub none_before : (v w : Views) (owner : ℕ → Owner) (t : ℕ) (y : TransferRuns) (x : EndpointRuns) (taken : List ℕ) (after : Mem) (parts : StructureSets) (ls : List Lot) (k c : ℕ) (s : Structure) → IsJoining v w owner t y x taken after parts ls → IsOneOf c taken → parts k (32 * c) ≡ Some s → ⊥
none_before v w owner t y x taken after parts ls k c s j one there =
    not_owned v w owner t y x taken k (32 * c) c (sort_of s) j.on one refl (j.driven.only k (32 * c) (sort_of s) (ap (option_map sort_of) there))

taken_from : (v w : Views) (owner : ℕ → Owner) (t : ℕ) (y : TransferRuns) (x : EndpointRuns) (taken : List ℕ) (after : Mem) (parts : StructureSets) (ls : List Lot) (c : ℕ) → IsJoining v w owner t y x taken after parts ls → IsOneOf c (all_runs ls) → IsOneOf c taken
taken_from v w owner t y x taken after parts ls c j one = subst (IsOneOf c) j.runs one

pub beside_head : (v w : Views) (owner : ℕ → Owner) (t : ℕ) (y : TransferRuns) (x : EndpointRuns) (taken : List ℕ) (after : Mem) (parts : StructureSets) (ls : List Lot) → IsJoining v w owner t y x taken after parts ls → AreBeside (32 * x.queue) (items ls)
beside_head v w owner t y x taken after parts ls j =
    let q = j.on.owned.queue y.endpoint x j.on.here.queue.here j.on.here.queue.queued in
    each_named v.slot after ls (λ i. i ≢ 32 * x.queue) j.each
    (λ c one same. not_taken v w owner t y x taken x.queue (QueueHead y.endpoint) j.on q (λ e. cc) (λ e. cc) (λ e. cc)
    (subst (λ (i : ℕ). IsOneOf i taken) (let e : c ≡ x.queue = omega (arith, same) in e) (taken_from v w owner t y x taken after parts ls c j one)))

-- what stood stands still
pub still_there : (v w : Views) (owner : ℕ → Owner) (t : ℕ) (y : TransferRuns) (x : EndpointRuns) (taken : List ℕ) (after : Mem) (parts : StructureSets) (ls : List Lot) (k a : ℕ) (u : Structure) → IsJoining v w owner t y x taken after parts ls → parts k a ≡ Some u → joined_parts parts x ls k a ≡ Some u
still_there v w owner t y x taken after parts ls k a u j there =
    ⊎_elim
    (λ (same : k ≡ 32 * x.queue).
    ap (λ (i : ℕ). joined_parts parts x ls i a) same
    ∙ all_else parts (32 * x.queue) (items ls) a
    (each_named v.slot after ls (λ i. i ≢ a) j.each
    (λ c one is. none_before v w owner t y x taken after parts ls k c u j (taken_from v w owner t y x taken after parts ls c j one) (ap (parts k) is ∙ there)))
    ∙ sym (ap (λ (i : ℕ). parts i a) same) ∙ there)
    (λ (differs : k ≢ 32 * x.queue). ap (λ (part : Structures). part a) (all_beside parts (32 * x.queue) (items ls) k differs) ∙ there) (cases_eq k (32 * x.queue))

-- nothing else is new
pub same_places : (v w : Views) (owner : ℕ → Owner) (t : ℕ) (y : TransferRuns) (x : EndpointRuns) (taken : List ℕ) (after : Mem) (parts : StructureSets) (ls : List Lot) (k c : ℕ) → IsJoining v w owner t y x taken after parts ls → (IsOneOf c taken → ⊥) → joined_parts parts x ls k (32 * c) ≡ parts k (32 * c)
same_places v w owner t y x taken after parts ls k c j none =
    ⊎_elim
    (λ (same : k ≡ 32 * x.queue).
    ap (λ (i : ℕ). joined_parts parts x ls i (32 * c)) same
    ∙ all_else parts (32 * x.queue) (items ls) (32 * c)
    (each_named v.slot after ls (λ i. i ≢ 32 * c) j.each
    (λ b one is. none (subst (λ (i : ℕ). IsOneOf i taken) (let e : b ≡ c = omega (arith, is) in e) (taken_from v w owner t y x taken after parts ls b j one))))
    ∙ sym (ap (λ (i : ℕ). parts i (32 * c)) same))
    (λ (differs : k ≢ 32 * x.queue). ap (λ (part : Structures). part (32 * c)) (all_beside parts (32 * x.queue) (items ls) k differs)) (cases_eq k (32 * x.queue))

pub same_sorts : (v w : Views) (owner : ℕ → Owner) (t : ℕ) (y : TransferRuns) (x : EndpointRuns) (taken : List ℕ) (after : Mem) (parts : StructureSets) (ls : List Lot) → IsJoining v w owner t y x taken after parts ls → SamePlaces parts (joined_parts parts x ls) taken
same_sorts v w owner t y x taken after parts ls j k c none = ap (option_map sort_of) (same_places v w owner t y x taken after parts ls k c j none)

pub item_here : (v w : Views) (owner : ℕ → Owner) (t : ℕ) (y : TransferRuns) (x : EndpointRuns) (taken : List ℕ) (after : Mem) (parts : StructureSets) (ls : List Lot) (a : ℕ) (u : Structure) → IsJoining v w owner t y x taken after parts ls → IsItem (items ls) a u → joined_parts parts x ls (32 * x.queue) a ≡ Some u
item_here v w owner t y x taken after parts ls a u j there = all_here v.slot after parts (32 * x.queue) ls a u j.each (subst AreAllApart (sym j.runs) j.apart) there

-- ---- no buffer begins at 0

piece_buffers : (v : Views) (owner : ℕ → Owner) (t b n c : ℕ) → ArePieces v.slot owner v.note t b n → IsPieceOf v.note b n c → AllByRecursion (λ k. IsPlaced v.slot owner k (Buffer t)) (v.note c).buffer
piece_buffers v owner t b zero c pieces is = absurd is
piece_buffers v owner t b (suc n) c pieces (inl is) = subst (λ (i : ℕ). AllByRecursion (λ k. IsPlaced v.slot owner k (Buffer t)) (v.note i).buffer) (sym is) pieces.0.buffers
piece_buffers v owner t b (suc n) c pieces (inr is) = piece_buffers v owner t (v.note b).next n c pieces.1 is

no_zero : (v : Views) (owner : ℕ → Owner) (n a : ℕ) (k : Sort) → AreOwned v owner → a ≡ 0 → k ≡ OfBuffer → IsDriverOwned v n a k → ⊥
no_zero v owner _ _ _ owned at kind the_list = cc
no_zero v owner _ _ _ owned at kind the_head = cc
no_zero v owner _ _ _ owned at kind (a_queue e x is lent) = cc
no_zero v owner _ _ _ owned at kind (a_dummy e x is lent) = cc
no_zero v owner _ _ _ owned at kind (a_piece t b y x is piece lent) = cc
no_zero v owner _ _ _ owned at kind (a_buffer t b c cs y x is piece first lent) =
    let all = subst (AllByRecursion (λ k. IsPlaced v.slot owner k (Buffer t))) first (piece_buffers v owner t y.first y.qtds b (owned.pieces t y is.here is.held) piece) in
    let zero : c ≡ 0 = omega (arith, at) in
    list_no_buffer (sym owned.list.owned ∙ ap owner (sym zero) ∙ all.0.owned)
  where
    list_no_buffer : {t : ℕ} → FrameList ≡ Buffer t → ⊥
    list_no_buffer same = cc

pub zero_not_taken : (v w : Views) (owner : ℕ → Owner) (t : ℕ) (y : TransferRuns) (x : EndpointRuns) (taken : List ℕ) → IsLentOn v w owner t y x taken → IsOneOf 0 taken → ⊥
zero_not_taken v w owner t y x taken on = not_taken v w owner t y x taken 0 FrameList on on.owned.list (λ e. cc) (λ e. cc) (λ e. cc)

pub zero_no_buffer : (v w : Views) (owner : ℕ → Owner) (t : ℕ) (y : TransferRuns) (x : EndpointRuns) (taken : List ℕ) (after : Mem) (parts : StructureSets) (ls : List Lot) (k i : ℕ) (pages bs : List ℕ) → IsJoining v w owner t y x taken after parts ls → joined_parts parts x ls k 0 ≡ Some (BufferOf pages i bs) → ⊥
zero_no_buffer v w owner t y x taken after parts ls k i pages bs j there =
    let none = not_taken v w owner t y x taken 0 FrameList j.on j.on.owned.list (λ e. cc) (λ e. cc) (λ e. cc) in
    no_zero v owner k 0 OfBuffer j.on.owned refl refl (j.driven.only k 0 OfBuffer (ap (option_map sort_of) (sym (same_places v w owner t y x taken after parts ls k 0 j none) ∙ there)))

-- ---- a name in a run that was lent before is no new one

pub lent_no_new : (v w : Views) (owner : ℕ → Owner) (t : ℕ) (y : TransferRuns) (x : EndpointRuns) (taken : List ℕ) (name other : ℕ) → IsLentOn v w owner t y x taken → NamesRun v.slot name → NamesOne taken other → name ≡ other → ⊥
lent_no_new v w owner t y x taken name other on old new same =
    on.kept new.at new.one (subst (λ (c : ℕ). IsLent (v.slot c)) (let e : old.block ≡ new.at = let f = old.is in let g = new.is in omega (arith, f, g, same) in e) old.lent)
