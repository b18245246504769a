-- The kind of what stands at an address is that of a member of the schedule which begins there, and each member has its own.
use Rattle.std.proofs.Common.{◌≡◌, ℕ, ◌*◌, ◌/◌, Bool, true, false, nat_eq, List, [], ◌∷◌, Some, None, inl, inr, ap, refl, ◌∙◌, arith}
use Rattle.std.specs.Prelude.{◌&&◌}
use Rattle.std.specs.List.{list_any}
use Rattle.std.proofs.lemmas.Bool.{false≢true, eqb-true, eq-eqb, or_cases, and_parts}
use Rattle.law_common.proofs.Booleans.{right_or, left_or}
use Rattle.law_frame_words.proofs.Common.{this_itself, that_itself}
use Rattle.law_common.proofs.Numbers.{same_block}
use Rattle.drv_chains.specs.declared.members.Descriptor.{Descriptor}
use Rattle.drv_chains.specs.declared.members.QueueHead.{QueueHead}
use Rattle.drv_chains.specs.declared.members.Member.{Member}
use Rattle.drv_chains.specs.declared.members.Member.TheVariants.{Once, Each}
use Rattle.drv_chains.specs.Chains.{Schedule, id_of}
use Rattle.drv_members.specs.Members.{is_that, is_this, is_linked}
use Rattle.law_frame_words.specs.frame_words.InWords.{IsSpread}
use Rattle.drv_periodic_table.specs.Periodic.{PeriodicContent, note_at}
use Rattle.law_frames.specs.Met.{Kind}
use Rattle.law_descriptors.specs.Meeting.{kind_of_descriptor, kind_of, queue_begins, descriptor_begins, kind_by, kind_at}

-- ---- one of a list

pub any_weaker : {X : Type 0} (t p : X → Bool) (xs : List X) → ((x : X) → t x ≡ true → p x ≡ true) → list_any t xs ≡ true → list_any p xs ≡ true
any_weaker t p [] by any = any
any_weaker t p (x ∷ xs) by any = elim (or_cases (t x) (list_any t xs) any) [
  | inl here ↦ left_or (p x) (list_any p xs) (by x here)
  | inr later ↦ right_or (p x) (list_any p xs) (any_weaker t p xs by later)
]

record IsFound {X : Type 0} (p : X → Bool) (t : X → X → Bool) (xs : List X) : Type 0 where
  found : X
  passes : p found ≡ true
  among : list_any (t found) xs ≡ true

found_in : {X : Type 0} (p : X → Bool) (t : X → X → Bool) (xs : List X) → ((x : X) → t x x ≡ true) → list_any p xs ≡ true → IsFound p t xs
found_in p t [] same any = absurd (false≢true any)
found_in p t (x ∷ xs) same any = elim (or_cases (p x) (list_any p xs) any) [
  | inl here ↦ record { found = x; passes = here; among = left_or (t x x) (list_any (t x) xs) (same x) }
  | inr later ↦ let f = found_in p t xs same later in record { found = f.found; passes = f.passes; among = right_or (t f.found x) (list_any (t f.found) xs) f.among }
]

-- ---- where a member begins

abbrev pub begins_at : Member → ℕ
begins_at m = 32 * (id_of m / 32)

queue_there : (s : Schedule) (q : QueueHead) → is_linked s (Each q) ≡ true → list_any (queue_begins (begins_at (Each q))) s.queues ≡ true
queue_there s q on =
    any_weaker (is_this q) (queue_begins (begins_at (Each q))) s.queues
    (λ x is. (let a = and_parts (nat_eq x.id q.id) (nat_eq x.period q.period && nat_eq x.phase q.phase) is in
    eq-eqb (32 * (x.id / 32)) (32 * (q.id / 32)) (ap (λ (n : ℕ). 32 * (n / 32)) (eqb-true x.id q.id a.0)))) on

descriptor_there : (s : Schedule) (d : Descriptor) → is_linked s (Once d) ≡ true → list_any (descriptor_begins (begins_at (Once d))) s.descriptors ≡ true
descriptor_there s d on =
    any_weaker (is_that d) (descriptor_begins (begins_at (Once d))) s.descriptors
    (λ x is. (let a = and_parts (nat_eq x.id d.id) (nat_eq x.frame d.frame) is in
    eq-eqb (32 * (x.id / 32)) (32 * (d.id / 32)) (ap (λ (n : ℕ). 32 * (n / 32)) (eqb-true x.id d.id a.0)))) on

once_each : (d : Descriptor) (q : QueueHead) → Each q ≡ Once d → ⊥
once_each d q same = cc

-- no queue head begins where a descriptor does
no_queue : (list : ℕ) (s : Schedule) (d : Descriptor) (b : Bool) → IsSpread list s → is_linked s (Once d) ≡ true → list_any (queue_begins (begins_at (Once d))) s.queues ≡ b → b ≡ false
no_queue list s d false spread on is = refl
no_queue list s d true spread on is =
    let f = found_in (queue_begins (begins_at (Once d))) is_this s.queues this_itself is in
    absurd (once_each d f.found (spread.once (Each f.found) (Once d) f.among on (same_block f.found.id d.id (eqb-true (32 * (f.found.id / 32)) (32 * (d.id / 32)) f.passes))))

block_again : (n : ℕ) → 32 * n / 32 ≡ n
block_again n = omega arith

pub member_kind : (q : PeriodicContent) (list : ℕ) (s : Schedule) (m : Member) → IsSpread list s → is_linked s m ≡ true → kind_at q s (begins_at m) ≡ Some (kind_of q m)
member_kind q list s (Each x) spread on =
    let n : ℕ = begins_at (Each x) in
    ap (λ (b : Bool). kind_by b (list_any (descriptor_begins n) s.descriptors) (kind_of_descriptor (note_at q.notes (n / 32)).split)) (queue_there s x on)
member_kind q list s (Once k) spread on =
    let n : ℕ = begins_at (Once k) in
    ap (λ (b : Bool). kind_by b (list_any (descriptor_begins n) s.descriptors) (kind_of_descriptor (note_at q.notes (n / 32)).split))
    (no_queue list s k (list_any (queue_begins n) s.queues) spread on refl)
    ∙ ap (λ (b : Bool). kind_by false b (kind_of_descriptor (note_at q.notes (n / 32)).split)) (descriptor_there s k on)
    ∙ ap (λ (i : ℕ). Some (kind_of_descriptor (note_at q.notes i).split)) (block_again (k.id / 32))

-- ---- who begins there

pub record IsMemberAt (s : Schedule) (n : ℕ) : Type 0 where
  pub member : Member
  pub linked : is_linked s member ≡ true
  pub begins : begins_at member ≡ n

at_by : (q : PeriodicContent) (s : Schedule) (n : ℕ) (kind here : Kind) (one two : Bool) → list_any (queue_begins n) s.queues ≡ one → list_any (descriptor_begins n) s.descriptors ≡ two
    → kind_by one two here ≡ Some kind → IsMemberAt s n
at_by q s n kind here true two queue descriptor is =
    let f = found_in (queue_begins n) is_this s.queues this_itself queue in
    record { member = Each f.found; linked = f.among; begins = eqb-true (32 * (f.found.id / 32)) n f.passes }
at_by q s n kind here false true queue descriptor is =
    let f = found_in (descriptor_begins n) is_that s.descriptors that_itself descriptor in
    record { member = Once f.found; linked = f.among; begins = eqb-true (32 * (f.found.id / 32)) n f.passes }
at_by q s n kind here false false queue descriptor is = absurd (none_some kind is)
  where
    none_some : (k : Kind) → None ≡ Some k → ⊥
    none_some k same = cc

pub member_at : (q : PeriodicContent) (s : Schedule) (n : ℕ) (kind : Kind) → kind_at q s n ≡ Some kind → IsMemberAt s n
member_at q s n kind is =
    at_by q s n kind (kind_of_descriptor (note_at q.notes (n / 32)).split) (list_any (queue_begins n) s.queues) (list_any (descriptor_begins n) s.descriptors) refl refl is
