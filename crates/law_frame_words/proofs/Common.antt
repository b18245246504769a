-- Lemmas that several files need.
use Rattle.std.proofs.Common.{◌≡◌, true, nat_eq, ◌&&◌, refl, ◌<◌, ◌^◌, arith, List, Bool, if◌then◌else◌, false}
use Rattle.std.proofs.lemmas.Bool.{and_from, eq-eqb}
use Rattle.std.specs.List.{AllByRecursion}
use Rattle.std.proofs.lemmas.List.Elements.{recursion_from_All}
use Rattle.drv_chains.specs.declared.members.QueueHead.{QueueHead}
use Rattle.drv_chains.specs.declared.members.Descriptor.{Descriptor}
use Rattle.drv_chains.specs.declared.members.Member.{Member}
use Rattle.drv_chains.specs.Stores.{is_same, is_word}
use Rattle.drv_chains.specs.declared.members.Member.TheVariants.{Once, Each}
use Rattle.drv_chains.specs.Order.{frames}
use Rattle.drv_chains.proofs.Linking.{weaken}
use Rattle.drv_chains.proofs.Orders.{all_below}
use Rattle.drv_chains.specs.declared.members.Predecessor.{Predecessor}
use Rattle.drv_chains.specs.declared.members.Predecessor.TheVariants.{Element, After}
use Rattle.drv_members.specs.Members.{is_this, is_that}

pub this_itself : (q : QueueHead) → is_this q q ≡ true
this_itself q = and_from (nat_eq q.id q.id) (nat_eq q.period q.period && nat_eq q.phase q.phase) (eq-eqb q.id q.id refl)
    (and_from (nat_eq q.period q.period) (nat_eq q.phase q.phase) (eq-eqb q.period q.period refl) (eq-eqb q.phase q.phase refl))

pub that_itself : (d : Descriptor) → is_that d d ≡ true
that_itself d = and_from (nat_eq d.id d.id) (nat_eq d.frame d.frame) (eq-eqb d.id d.id refl) (eq-eqb d.frame d.frame refl)

pub same_itself : (m : Member) → is_same m m ≡ true
same_itself (Once d) = and_from (nat_eq d.id d.id) (nat_eq d.frame d.frame) (eq-eqb d.id d.id refl) (eq-eqb d.frame d.frame refl)
same_itself (Each q) =
    and_from (nat_eq q.id q.id) (nat_eq q.period q.period && nat_eq q.phase q.phase) (eq-eqb q.id q.id refl)
    (and_from (nat_eq q.period q.period) (nat_eq q.phase q.phase) (eq-eqb q.period q.period refl) (eq-eqb q.phase q.phase refl))

pub frames_below : AllByRecursion (λ f. f < 1024) (frames 10)
frames_below = weaken (λ f. f < 2 ^ 10) (λ f. f < 1024) (λ f h. omega (arith, h)) (frames 10)
    (recursion_from_All (λ f. f < 2 ^ 10) (frames 10) (all_below 10))

pub either_all : (P : Member → Type 0) (xs ys : List Member) (b : Bool) → AllByRecursion P xs → AllByRecursion P ys
    → AllByRecursion P (if b then xs else ys)
either_all P xs ys true h k = h
either_all P xs ys false h k = k

pub word_itself : (p : Predecessor) → is_word p p ≡ true
word_itself (Element f) = eq-eqb f f refl
word_itself (After m) = same_itself m
