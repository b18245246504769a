-- What tells of the stores that are owed stays where other things of the driver's content change.
use Rattle.std.proofs.Common.{◌≡◌, ◌≢◌, ℕ, suc, Bool, true, false, cond, nat_lt, List, [], ◌∷◌, ◌++◌, length, set, slice_get, Option, Some, None, ap, sym, subst, ◌∙◌, ⊎_elim, refl}
use Rattle.std.specs.Prelude.{is_none}
use Rattle.std.specs.List.{AllByRecursion}
use Rattle.std.proofs.lemmas.Bool.{cases_eq}
use Rattle.std.proofs.lemmas.Option.{same_Some}
use Rattle.law_common.proofs.Lists.{push_there, set_here, set_there}
use Rattle.usb_base.specs.declared.endpoints.EpDesc.{EpDesc}
use Rattle.drv_table.specs.declared.content.Endpoint.{Endpoint}
use Rattle.drv_table.specs.declared.content.Transfer.{Transfer}
use Rattle.drv_table.specs.declared.content.Command.{Command}
use Rattle.drv_table.specs.declared.content.Command.TheVariants as unfinished
use Rattle.drv_table.specs.DriverContent.{DriverContent}
use Rattle.drv_table.specs.Words.{is_control}
use Rattle.drv_table.specs.Commands.{events_of, links, removes_members, leave_ring, leave_frames, no_command, finished, list_after, or_finished, linked_on, advanced_by, advance}
use Rattle.drv_periodic_table.specs.Linking.{begun_next}
use Rattle.law_driver.specs.endpoint_lives.Lives.{told_end}
use Rattle.law_queues.specs.mended_heads.Owed.{StalledQueue, GoesOnAt, IsOwed}

-- ---- lists

pub all_both : {X : Type 0} (P R Q : X → Type 0) (xs : List X) → ((x : X) → P x → R x → Q x) → AllByRecursion P xs → AllByRecursion R xs → AllByRecursion Q xs
all_both P R Q [] each all also = tt
all_both P R Q (x ∷ xs) each all also = (each x all.0 also.0, all_both P R Q xs each all.1 also.1)

pub all_more : {X : Type 0} (P : X → Type 0) (xs : List X) (x : X) → AllByRecursion P xs → P x → AllByRecursion P (xs ++ x ∷ [])
all_more P [] x all one = (one, tt)
all_more P (y ∷ ys) x all one = (all.0, all_more P ys x all.1 one)

-- ---- transfers begin where they did

pub record BeginsStill (us : List Transfer) (t : ℕ) (y : Transfer) : Type 0 where
  pub transfer : Transfer
  pub here : slice_get us t ≡ Some transfer
  pub first : transfer.first ≡ y.first

abbrev pub KeepFirsts : List Transfer → List Transfer → Type 0
KeepFirsts ts us = (t : ℕ) (y : Transfer) → slice_get ts t ≡ Some y → BeginsStill us t y

pub firsts_same : (ts : List Transfer) → KeepFirsts ts ts
firsts_same ts t y here = record { transfer = y; here = here; first = refl }

pub firsts_both : (ts us vs : List Transfer) → KeepFirsts ts us → KeepFirsts us vs → KeepFirsts ts vs
firsts_both ts us vs one two t y here =
    let a = one t y here in
    let b = two t a.transfer a.here in
    record { transfer = b.transfer; here = b.here; first = b.first ∙ a.first }

pub firsts_set : (ts : List Transfer) (t : ℕ) (y z : Transfer) → slice_get ts t ≡ Some y → z.first ≡ y.first → KeepFirsts ts (set ts t z)
firsts_set ts t y z there same k w here =
    ⊎_elim {C = BeginsStill (set ts t z) k w}
    (λ (own : k ≡ t).
    let is : y ≡ w = same_Some y w (sym there ∙ ap (slice_get ts) (sym own) ∙ here) in
    record { transfer = z; here = ap (slice_get (set ts t z)) own ∙ set_here ts t y z there; first = same ∙ ap (λ (r : Transfer). r.first) is })
    (λ (other : k ≢ t). record { transfer = w; here = set_there ts t k z other ∙ here; first = refl }) (cases_eq k t)

pub firsts_pushed : (ts : List Transfer) (z : Transfer) → KeepFirsts ts (ts ++ z ∷ [])
firsts_pushed ts z t y here = record { transfer = y; here = push_there ts z t y here; first = refl }

pub goes_on_still : (ts us : List Transfer) (dummy b : ℕ) (next : Option ℕ) → KeepFirsts ts us → GoesOnAt ts dummy next b → GoesOnAt us dummy next b
goes_on_still ts us dummy b None firsts is = is
goes_on_still ts us dummy b (Some t) firsts is = let k = firsts t is.transfer is.here in record { transfer = k.transfer; here = k.here; first = is.first ∙ sym k.first }

-- ---- endpoints are owed what they were

-- endpoint e, which was x, with these transfers behind it
pub record IsOwedStill (ts : List Transfer) (ys : List Endpoint) (us : List Transfer) (e : ℕ) (x : Endpoint) : Type 0 where
  pub endpoint : Endpoint
  pub here : slice_get ys e ≡ Some endpoint
  pub desc : endpoint.desc ≡ x.desc
  pub gone : endpoint.gone ≡ x.gone
  pub going : x.gone ≡ false → told_end x ≡ None → told_end endpoint ≡ None
  pub queue : endpoint.queue ≡ x.queue
  pub onward : (b : ℕ) → GoesOnAt ts x.dummy x.next b → GoesOnAt us endpoint.dummy endpoint.next b

abbrev pub KeepOwed : (ℕ → Endpoint → Type 0) → List Endpoint → List Transfer → List Endpoint → List Transfer → Type 0
KeepOwed P xs ts ys us = (e : ℕ) (x : Endpoint) → P e x → slice_get xs e ≡ Some x → IsOwedStill ts ys us e x

abbrev pub any_one : ℕ → Endpoint → Type 0
any_one e x = Unit {0}

pub same_still : (ts us : List Transfer) (ys : List Endpoint) (e : ℕ) (x : Endpoint) → KeepFirsts ts us → slice_get ys e ≡ Some x → IsOwedStill ts ys us e x
same_still ts us ys e x firsts here = record {
  endpoint = x;
  here = here;
  desc = refl;
  gone = refl;
  going = λ kept goes. goes;
  queue = refl;
  onward = λ b is. goes_on_still ts us x.dummy b x.next firsts is;
}

pub owed_same : (P : ℕ → Endpoint → Type 0) (xs : List Endpoint) (ts us : List Transfer) → KeepFirsts ts us → KeepOwed P xs ts xs us
owed_same P xs ts us firsts e x p here = same_still ts us xs e x firsts here

pub owed_both : (P : ℕ → Endpoint → Type 0) (xs ys zs : List Endpoint) (ts us vs : List Transfer) → KeepOwed P xs ts ys us → KeepOwed any_one ys us zs vs → KeepOwed P xs ts zs vs
owed_both P xs ys zs ts us vs one two e x p here =
    let a = one e x p here in
    let b = two e a.endpoint tt a.here in
    record {
      endpoint = b.endpoint;
      here = b.here;
      desc = b.desc ∙ a.desc;
      gone = b.gone ∙ a.gone;
      going = λ kept goes. b.going (a.gone ∙ kept) (a.going kept goes);
      queue = b.queue ∙ a.queue;
      onward = λ c is. b.onward c (a.onward c is);
    }

-- one endpoint is written
pub owed_set : (P : ℕ → Endpoint → Type 0) (xs : List Endpoint) (ts us : List Transfer) (e : ℕ) (y : Endpoint) → KeepFirsts ts us
    → ((x : Endpoint) → P e x → slice_get xs e ≡ Some x → IsOwedStill ts (set xs e y) us e x) → KeepOwed P xs ts (set xs e y) us
owed_set P xs ts us e y firsts one i x p here =
    ⊎_elim {C = IsOwedStill ts (set xs e y) us i x}
    (λ (same : i ≡ e). subst (λ (j : ℕ). IsOwedStill ts (set xs e y) us j x) (sym same) (one x (subst (λ (j : ℕ). P j x) same p) (ap (slice_get xs) (sym same) ∙ here)))
    (λ (differs : i ≢ e). same_still ts us (set xs e y) i x firsts (set_there xs e i y differs ∙ here)) (cases_eq i e)

pub owed_pushed : (P : ℕ → Endpoint → Type 0) (xs : List Endpoint) (ts : List Transfer) (y : Endpoint) → KeepOwed P xs ts (xs ++ y ∷ []) ts
owed_pushed P xs ts y e x p here = same_still ts ts (xs ++ y ∷ []) e x (firsts_same ts) (push_there xs y e x here)

-- what was owed is owed
pub owed_on : (P : ℕ → Endpoint → Type 0) (d f : DriverContent) (s : StalledQueue) → KeepOwed P d.endpoints d.transfers f.endpoints f.transfers → (k : IsOwed d s) → P k.number k.endpoint → IsOwed f s
owed_on P d f s keeps k p =
    let a = keeps k.number k.endpoint p k.here in
    record {
      number = k.number;
      endpoint = a.endpoint;
      here = a.here;
      control = ap (λ (x : EpDesc). is_control x.kind) a.desc ∙ k.control;
      kept = a.gone ∙ k.kept;
      going = a.going k.kept k.going;
      queue = a.queue ∙ k.queue;
      onward = a.onward s.onward k.onward;
      some = k.some;
    }

-- ---- an event of a command

-- the same stores are owed to the same endpoints
pub record OwesAlike (P : ℕ → Endpoint → Type 0) (d f : DriverContent) : Type 0 where
  pub mends : f.mends ≡ d.mends
  pub owed : KeepOwed P d.endpoints d.transfers f.endpoints f.transfers

pub alike_same : (P : ℕ → Endpoint → Type 0) (d f : DriverContent) → f.mends ≡ d.mends → f.endpoints ≡ d.endpoints → f.transfers ≡ d.transfers → OwesAlike P d f
alike_same P d f mends ends transfers = record {
  mends = mends;
  owed = subst (λ (ys : List Endpoint). KeepOwed P d.endpoints d.transfers ys f.transfers) (sym ends)
      (subst (λ (us : List Transfer). KeepOwed P d.endpoints d.transfers d.endpoints us) (sym transfers) (owed_same P d.endpoints d.transfers d.transfers (firsts_same d.transfers)));
}

pub alike_both : (P : ℕ → Endpoint → Type 0) (d e f : DriverContent) → OwesAlike P d e → OwesAlike any_one e f → OwesAlike P d f
alike_both P d e f one two = record {
  mends = two.mends ∙ one.mends;
  owed = owed_both P d.endpoints e.endpoints f.endpoints d.transfers e.transfers f.transfers one.owed two.owed;
}

pub alike_either : (P : ℕ → Endpoint → Type 0) (d e f : DriverContent) (b : Bool) → OwesAlike P d e → OwesAlike P d f → OwesAlike P d (cond b e f)
alike_either P d e f true one two = one
alike_either P d e f false one two = two

-- the endpoint leaves the ring, or its frames
out_still : (ts : List Transfer) (ys : List Endpoint) (e : ℕ) (x y : Endpoint) → slice_get ys e ≡ Some y → y.desc ≡ x.desc → y.gone ≡ x.gone → told_end y ≡ told_end x → y.queue ≡ x.queue → y.dummy ≡ x.dummy → y.next ≡ x.next
    → IsOwedStill ts ys ts e x
out_still ts ys e x y here desc gone end queue dummy next = record {
  endpoint = y;
  here = here;
  desc = desc;
  gone = gone;
  going = λ kept goes. end ∙ goes;
  queue = queue;
  onward = λ b is. subst (λ (n : Option ℕ). GoesOnAt ts y.dummy n b) (sym next) (subst (λ (c : ℕ). GoesOnAt ts c x.next b) (sym dummy) is);
}

ring_left : (d : DriverContent) (e : ℕ) (x z : Endpoint) → slice_get d.endpoints e ≡ Some x → slice_get d.endpoints e ≡ Some z → IsOwedStill d.transfers (set d.endpoints e (record x { linked = false })) d.transfers e z
ring_left d e x z here there =
    let is : x ≡ z = same_Some x z (sym here ∙ there) in
    subst (IsOwedStill d.transfers (set d.endpoints e (record x { linked = false })) d.transfers e) is
    (out_still d.transfers (set d.endpoints e (record x { linked = false })) e x (record x { linked = false }) (set_here d.endpoints e x (record x { linked = false }) here) refl refl refl refl refl refl)

left_ring : (d : DriverContent) (e : ℕ) (o : Option Endpoint) → slice_get d.endpoints e ≡ o → OwesAlike any_one d (leave_ring d e o)
left_ring d e None here = alike_same any_one d d refl refl refl
left_ring d e (Some x) here =
    alike_either any_one d _ d x.linked
    (record { mends = refl; owed = owed_set any_one d.endpoints d.transfers d.transfers e (record x { linked = false }) (firsts_same d.transfers) (λ z p there. ring_left d e x z here there) })
    (alike_same any_one d d refl refl refl)

frames_left : (d : DriverContent) (e : ℕ) (x z : Endpoint) → slice_get d.endpoints e ≡ Some x → slice_get d.endpoints e ≡ Some z → IsOwedStill d.transfers (set d.endpoints e (record x { chained = false })) d.transfers e z
frames_left d e x z here there =
    let is : x ≡ z = same_Some x z (sym here ∙ there) in
    subst (IsOwedStill d.transfers (set d.endpoints e (record x { chained = false })) d.transfers e) is
    (out_still d.transfers (set d.endpoints e (record x { chained = false })) e x (record x { chained = false }) (set_here d.endpoints e x (record x { chained = false }) here) refl refl refl refl refl refl)

left_frames : (d : DriverContent) (e : ℕ) (o : Option Endpoint) → slice_get d.endpoints e ≡ o → OwesAlike any_one d (leave_frames d e o)
left_frames d e None here = alike_same any_one d d refl refl refl
left_frames d e (Some x) here =
    alike_either any_one d _ d x.chained
    (record { mends = refl; owed = owed_set any_one d.endpoints d.transfers d.transfers e (record x { chained = false }) (firsts_same d.transfers) (λ z p there. frames_left d e x z here there) })
    (alike_same any_one d d refl refl refl)

none_now : (d : DriverContent) → OwesAlike any_one d (no_command d)
none_now d = alike_same any_one d (no_command d) refl refl refl

done : (d : DriverContent) (c : Command) → OwesAlike any_one d (finished d c)
done d (unfinished.Unlink e b link) = alike_both any_one d (no_command d) (leave_ring (no_command d) e (slice_get d.endpoints e)) (none_now d) (left_ring (no_command d) e (slice_get d.endpoints e) refl)
done d (unfinished.Unchain e) = alike_both any_one d (no_command d) (leave_frames (no_command d) e (slice_get d.endpoints e)) (none_now d) (left_frames (no_command d) e (slice_get d.endpoints e) refl)
done d _ = none_now d

pub or_done : (d : DriverContent) (c : Command) → OwesAlike any_one d (or_finished d c)
or_done d c = alike_either any_one d (finished d c) d (is_none d.periodic.list.work) (done d c) (alike_same any_one d d refl refl refl)

linked_alike : (d : DriverContent) (c : Command) → OwesAlike any_one d (linked_on d c)
linked_alike d c =
    let q = begun_next (removes_members c) (record d.periodic { list = list_after d c }) in
    let e = record d { made = length (events_of c); periodic = q } in
    alike_both any_one d e (linked_on d c) (alike_same any_one d e refl refl refl) (or_done e c)

went_on : (d : DriverContent) (o : Option Command) → OwesAlike any_one d (advanced_by d o)
went_on d None = alike_same any_one d d refl refl refl
went_on d (Some c) =
    alike_either any_one d (record d { made = suc d.made }) (cond (links c) (linked_on d c) (finished d c)) (nat_lt (suc d.made) (length (events_of c)))
    (alike_same any_one d _ refl refl refl)
    (alike_either any_one d (linked_on d c) (finished d c) (links c) (linked_alike d c) (done d c))

pub advanced_alike : (d : DriverContent) → OwesAlike any_one d (advance d)
advanced_alike d = went_on d d.command
