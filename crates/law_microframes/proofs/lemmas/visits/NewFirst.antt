-- A descriptor that begins to be linked comes right behind the element of its frame, and does so until it is linked.
use Rattle.std.proofs.Common.{map, ◌≡◌, ℕ, ◌<◌, ◌+◌, Bool, true, false, not, cond, nat_eq, List, [], ◌∷◌, ◌++◌, Option, Some, None, ap, refl, subst, ◌∙◌, arith}
use Rattle.std.specs.Prelude.{filter, nat_lt, is_none}
use Rattle.std.proofs.lemmas.Bool.{true≢false, eq-eqb, eqb-true, ltb-true}
use Rattle.std.proofs.lemmas.Option.{same_Some}
use Rattle.law_common.proofs.Booleans.{either}
use Rattle.drv_chains.specs.declared.members.Descriptor.{Descriptor}
use Rattle.drv_chains.specs.declared.members.Member.{Member}
use Rattle.drv_chains.specs.declared.members.Member.TheVariants.{Once, Each}
use Rattle.drv_chains.specs.declared.members.Predecessor.TheVariants.{Element}
use Rattle.drv_chains.specs.Chains.{Schedule, before_the, word_after}
use Rattle.drv_chains.proofs.Beside.{once_in, before_it}
use Rattle.drv_members.specs.Members.{is_below, with_member}
use Rattle.drv_periodic.specs.declared.work.Work.{Work}
use Rattle.drv_periodic.specs.Periodic.{Periodic, begun as begun_work, inserting, removing, is_more, members_after, after_work, after_store}
use Rattle.drv_periodic_table.specs.Linking.{may_link, may_unlink, linking, unlinking, begun, with_first, begun_next}
use Rattle.drv_periodic_table.specs.Periodic.{PeriodicContent}
use Rattle.law_descriptors.proofs.Returning.{none_some}
use Rattle.law_microframes.specs.visits.Visited.{IsFirstIn, NewIsFirst}
use Rattle.law_microframes.proofs.lemmas.visits.SpliceWords.{rest_in, with_chain}

-- ---- where it is put

not_both : (a b : ℕ) → a ≡ b → a < b → ⊥
not_both a b same less = omega (arith, same, less)

apart_by : (a f : ℕ) (b : Bool) → nat_lt a f ≡ true → nat_eq a f ≡ b → b ≡ false
apart_by a f false less is = refl
apart_by a f true less is = absurd (not_both a f (eqb-true a f is) (ltb-true a f less))

apart : (a f : ℕ) → nat_lt a f ≡ true → nat_eq a f ≡ false
apart a f less = apart_by a f (nat_eq a f) less refl

-- none of a lower frame is one of the frame
lower_by : (f : ℕ) (d : Descriptor) (ds : List Descriptor) (b : Bool) → nat_lt d.frame f ≡ b → filter (λ x. nat_eq x.frame f) ds ≡ [] → filter (λ x. nat_eq x.frame f) (cond b (d ∷ ds) ds) ≡ []
lower_by f d ds true less rest = ap (λ (t : Bool). cond t (d ∷ filter (λ x. nat_eq x.frame f) ds) (filter (λ x. nat_eq x.frame f) ds)) (apart d.frame f less) ∙ rest
lower_by f d ds false more rest = rest

none_lower : (f : ℕ) (ds : List Descriptor) → filter (λ x. nat_eq x.frame f) (filter (is_below f) ds) ≡ []
none_lower f [] = refl
none_lower f (d ∷ ds) = lower_by f d (filter (is_below f) ds) (nat_lt d.frame f) refl (none_lower f ds)

put_first : (s : Schedule) (d : Descriptor) → IsFirstIn (with_member s (Once d)) (Once d)
unfolding word_after
put_first s d =
    let lower : List Descriptor = filter (is_below d.frame) s.descriptors in
    let higher : List Descriptor = filter (λ x. not (is_below d.frame x)) s.descriptors in
    let rest : List Member = rest_in higher s.queues d.frame in
    let none : once_in lower d.frame ≡ [] = ap (λ (ds : List Descriptor). map Once ds) (none_lower d.frame s.descriptors) in
    ap (λ (ms : List Member). word_after (Element d.frame) (before_the (Once d) ms))
    (with_chain lower higher d s.queues d.frame (eq-eqb d.frame d.frame refl) ∙ ap (λ (front : List Member). front ++ Once d ∷ rest) none)
    ∙ ap (λ (ms : List Member). word_after (Element d.frame) ms) (before_it (Once d) [] rest tt)

put_in : (s : Schedule) (m : Member) → IsFirstIn (with_member s m) m
put_in s (Once d) = put_first s d
put_in s (Each q) = tt

-- ---- what is begun next

inserted : (p : Periodic) (m : Member) → NewIsFirst (inserting p m)
inserted p m x is adds = subst (λ (y : Member). IsFirstIn (with_member p.members.schedule m) y) (ap (λ (w : Work). w.member) (same_Some (begun_work m false) x is)) (put_in p.members.schedule m)

removed : (p : Periodic) (m : Member) → NewIsFirst (removing p m)
removed p m x is adds = absurd (true≢false (ap (λ (w : Work). w.removes) (same_Some (begun_work m true) x is) ∙ adds))

pub linking_first : (p : Periodic) (m : Member) → NewIsFirst p → NewIsFirst (linking p m)
linking_first p m old = either NewIsFirst (may_link p m) (inserting p m) p (inserted p m) old

pub unlinking_first : (p : Periodic) (m : Member) → NewIsFirst p → NewIsFirst (unlinking p m)
unlinking_first p m old = either NewIsFirst (may_unlink p m) (removing p m) p (removed p m) old

begun_first : (removes : Bool) (p : Periodic) (m : Member) → NewIsFirst p → NewIsFirst (begun removes p m)
begun_first true p m old = unlinking_first p m old
begun_first false p m old = linking_first p m old

with_first_first : (removes : Bool) (q : PeriodicContent) (ms : List Member) → NewIsFirst q.list → NewIsFirst (with_first removes q ms).list
with_first_first removes q [] old = old
with_first_first removes q (m ∷ ms) old = begun_first removes q.list m old

pub next_first : (removes : Bool) (q : PeriodicContent) → NewIsFirst q.list → NewIsFirst (begun_next removes q).list
next_first removes q old =
    either (λ (r : PeriodicContent). NewIsFirst r.list) (is_none q.list.work) (with_first removes q q.queued) q (with_first_first removes q q.queued old) old

-- ---- a store

work_first : (p : Periodic) (o : Option Work) → p.work ≡ o → NewIsFirst p → NewIsFirst (after_work p o)
work_first p None is old = old
work_first p (Some w) is old =
    either NewIsFirst (is_more p.members.schedule w) (record p { work = Some (record w { made = w.made + 1 }) }) (record { list = p.list; members = members_after p.members w; work = None })
    (λ x under adds.
    let same : record w { made = w.made + 1 } ≡ x = same_Some (record w { made = w.made + 1 }) x under in
    subst (λ (y : Member). IsFirstIn p.members.schedule y) (ap (λ (y : Work). y.member) same) (old w is (ap (λ (y : Work). y.removes) same ∙ adds)))
    (λ x under adds. absurd (none_some x under))

pub store_first : (p : Periodic) → NewIsFirst p → NewIsFirst (after_store p)
store_first p old = work_first p p.work refl old
