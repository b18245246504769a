-- What the words of memory link in a frame stands there, also while a member is linked or unlinked (EHCI 1.0, 3.1, 3.3.1 and 4.6).
use Rattle.std.proofs.Common.{◌≡◌, ℕ, ◌/◌, ◌<◌, Bool, true, false, List, [], ◌∷◌, Option, Some, None, if◌then◌else◌, ⊎_elim, ap, refl, sym, subst, ◌∙◌}
use Rattle.std.specs.Prelude.{◌&&◌, ◌||◌, nat_lt, take}
use Rattle.std.specs.List.{AllByRecursion}
use Rattle.std.proofs.lemmas.Bool.{true≢false, cases_Bool}
use Rattle.std.proofs.lemmas.Option.{same_Some}
use Rattle.law_common.proofs.Booleans.{and_false}
use Rattle.law_common.proofs.Numbers.{first_word}
use Rattle.law_microframes.proofs.Common.{no_work}
use Rattle.law_descriptors.proofs.Common.{gone}
use Rattle.word_mem.specs.Memory.{Mem, word_at}
use Rattle.link_words.specs.Links.{link_read}
use Rattle.drv_chains.specs.declared.members.Member.{Member}
use Rattle.drv_chains.specs.declared.members.Predecessor.{Predecessor}
use Rattle.drv_chains.specs.declared.members.Predecessor.TheVariants.{Element, After}
use Rattle.drv_chains.specs.Chains.{Schedule, id_of, stands_in, chain, predecessor}
use Rattle.drv_chains.specs.Stores.{is_among, is_made}
use Rattle.drv_chains.proofs.Linking.{weaken}
use Rattle.drv_members.specs.Members.{IsKept, is_linked, without_member, frame_of}
use Rattle.drv_members.proofs.Keeping.{keeps_without}
use Rattle.drv_periodic.specs.declared.work.Work.{Work}
use Rattle.drv_periodic.specs.Periodic.{address_of, words_of}
use Rattle.drv_table.specs.DriverContent.{DriverContent}
use Rattle.claims_driver.specs.FrameWords.{Leads, made_of, StandsBy, HasMember}
use Rattle.claims_driver.specs.Unlinked.{is_led, led_by}
use Rattle.law_frame_words.specs.frame_words.InWords.{IsSpread, shown}
use Rattle.law_frame_words.proofs.lemmas.frame_words.InChains.{fewer_in}
use Rattle.law_frame_words.proofs.lemmas.frame_words.Steps.{frames_while_under_way}
use Rattle.law_frame_list.specs.list_closed.Closed.{IsInFrame}
use Rattle.law_frame_list.proofs.lemmas.list_closed.Chained.{chain_in_frame, first_frame_is, member_of_kept}
use Rattle.law_frame_list.proofs.lemmas.list_closed.Structures.{links_tell_structures}
use Rattle.law_descriptors.specs.RowLaws.{HasFrames}
use Rattle.law_descriptors.proofs.Leading.{none_made, led_linked}
use Rattle.claims_world.specs.Visits.{name_of, next_of, IsLedTo, begins}
use Rattle.law_microframes.specs.visits.Coverage.{ChainIsStanding}
use Rattle.law_microframes.specs.visits.Visited.{StandsIn}
use Rattle.law_microframes.proofs.lemmas.visits.NoneLeft.{way_on, no_way}
use Rattle.law_microframes.proofs.lemmas.visits.VisitElements.{structure_name}

-- ---- each that is shown stands in the frame

record IsShownAs (s : Schedule) (o : Option Work) (f : ℕ) (x : Member) : Type 0 where
  linked : is_linked (led_by s o) x ≡ true
  in_frame : stands_in f x ≡ true
  stays : (v : Work) → o ≡ Some v → v.removes ≡ true → v.member ≡ x → is_made s v.member (made_of s v) f ≡ false

-- before the first store none is made
pub unmade : (s : Schedule) (v : Work) (f : ℕ) → v.made ≡ 0 → is_made s v.member (made_of s v) f ≡ false
unmade s v f zero =
    ap (λ (n : ℕ). stands_in f v.member && is_among (take n (words_of s v)) (predecessor s v.member f)) zero
    ∙ and_false (stands_in f v.member)

module _ (s : Schedule) (v : Work) (f : ℕ) (kept : IsKept s) where
  abbrev with_all : Member → Type 0
  with_all x = IsShownAs s (Some v) f x

  all_led : is_led v ≡ true → led_by s (Some v) ≡ s
  all_led on = ap (λ (b : Bool). if b then s else without_member s v.member) on

  led_on : is_led v ≡ true → (x : Member) → is_linked s x ≡ true → is_linked (led_by s (Some v)) x ≡ true
  led_on on x there = ap (λ (t : Schedule). is_linked t x) (all_led on) ∙ there

  removal_led : v.removes ≡ true → is_led v ≡ true
  removal_led removes = ap (λ (b : Bool). b || nat_lt 0 v.made) removes

  made_led : v.removes ≡ false → is_made s v.member (made_of s v) f ≡ true → is_led v ≡ true
  made_led adds made =
      ⊎_elim (λ (some : nat_lt 0 v.made ≡ true). ap (λ (b : Bool). b || nat_lt 0 v.made) adds ∙ some)
      (λ (none : nat_lt 0 v.made ≡ false). absurd (true≢false (sym made ∙ unmade s v f (none_made v.made none))))
      (cases_Bool (nat_lt 0 v.made))

  fewer_led : (x : Member) → is_linked (without_member s v.member) x ≡ true → is_linked (led_by s (Some v)) x ≡ true
  fewer_led x there =
      ⊎_elim (λ (on : is_led v ≡ true). led_on on x (fewer_in s v.member x there))
      (λ (off : is_led v ≡ false). ap (λ (b : Bool). is_linked (if b then s else without_member s v.member) x) off ∙ there)
      (cases_Bool (is_led v))

  the_same : (u : Work) → Some v ≡ Some u → u ≡ v
  the_same u is = sym (same_Some v u is)

  adds_alone : v.removes ≡ false → (u : Work) → Some v ≡ Some u → u.removes ≡ true → ⊥
  adds_alone adds u is removes = true≢false (sym removes ∙ ap (λ (w : Work). w.removes) (the_same u is) ∙ adds)

  still_made : (b : Bool) → is_made s v.member (made_of s v) f ≡ b → (u : Work) → Some v ≡ Some u → is_made s u.member (made_of s u) f ≡ b
  still_made b made u is = ap (λ (w : Work). is_made s w.member (made_of s w) f) (the_same u is) ∙ made

  -- it isn't the one that left
  other_member : (x : Member) → is_linked (without_member s v.member) x ≡ true → (u : Work) → Some v ≡ Some u → u.member ≡ x → ⊥
  other_member x there u is same =
      true≢false (sym there ∙ ap (is_linked (without_member s v.member)) (sym same ∙ ap (λ (w : Work). w.member) (the_same u is))
      ∙ gone s v.member)

  shown_by : (made removes : Bool) → is_made s v.member (made_of s v) f ≡ made → v.removes ≡ removes
      → AllByRecursion (IsShownAs s (Some v) f)
      (if made then chain (if removes then without_member s v.member else s) f else chain
      (if removes then s else without_member s v.member) f)
  shown_by true true made removes =
      weaken (IsInFrame (without_member s v.member) f) (IsShownAs s (Some v) f)
      (λ x h. record { linked = fewer_led x h.0; in_frame = h.1; stays = λ u is leaves same. absurd (other_member x h.0 u is same) })
      (chain (without_member s v.member) f) (chain_in_frame (without_member s v.member) f (keeps_without s v.member kept))
  shown_by true false made adds =
      weaken (IsInFrame s f) (IsShownAs s (Some v) f)
      (λ x h. record {
        linked = led_on (made_led adds made) x h.0;
        in_frame = h.1;
        stays = λ u is removes same. absurd
            (adds_alone adds u is removes);
      }) (chain s f) (chain_in_frame s f kept)
  shown_by false true unmade removes =
      weaken (IsInFrame s f) (IsShownAs s (Some v) f)
      (λ x h. record {
        linked = led_on
            (removal_led removes) x h.0;
        in_frame = h.1;
        stays = λ u is leaves same. still_made false unmade u is;
      }) (chain s f)
      (chain_in_frame s f kept)
  shown_by false false unmade adds =
      weaken (IsInFrame (without_member s v.member) f) (IsShownAs s (Some v) f)
      (λ x h. record { linked = fewer_led x h.0; in_frame = h.1; stays = λ u is removes same. absurd (adds_alone adds u is removes) })
      (chain (without_member s v.member) f) (chain_in_frame (without_member s v.member) f (keeps_without s v.member kept))

  shown_all : AllByRecursion (IsShownAs s (Some v) f) (shown s v f)
  shown_all = shown_by (is_made s v.member (made_of s v) f) v.removes refl refl

-- ---- along the words of a frame

record IsLedAlong (list : ℕ) (s : Schedule) (o : Option Work) (word : ℕ → ℕ) (f : ℕ) : Type 0 where
  members : List Member
  all : AllByRecursion (IsShownAs s o f) members
  led : Leads list word (Element f) members

led_along : (list : ℕ) (s : Schedule) (o : Option Work) (word : ℕ → ℕ) (f : ℕ) → IsKept s → IsSpread list s → HasMember s o
    → StandsBy list s o word → f < 1024 → IsLedAlong list s o word f
led_along list s None word f kept spread member stands low = record {
  members = chain s f;
  all = weaken (IsInFrame s f) (IsShownAs s None f) (λ x h. record { linked = h.0; in_frame = h.1; stays = λ v is. absurd (no_work v is) })
      (chain s f) (chain_in_frame s f kept);
  led = stands f low;
}
led_along list s (Some v) word f kept spread member stands low = record {
  members = shown s v f;
  all = shown_all s v f kept;
  led = frames_while_under_way list s v word f kept spread member.0 member.1 stands low;
}

record IsFound (P : Member → Type 0) (n : ℕ) : Type 0 where
  member : Member
  at : begins member ≡ n
  is : P member

module _ (m : Mem) (list n : ℕ) (P : Member → Type 0) (ends : name_of (link_read 1) ≡ None)
    (named : (x : Member) → P x → name_of (link_read (id_of x)) ≡ Some (begins x)) where
  found : (p : Predecessor) (xs : List Member) → AllByRecursion P xs → Leads list (word_at m) p xs
      → IsLedTo m n (next_of m (address_of list p)) → IsFound P n
  unfolding Leads
  found p [] all led to = absurd (no_way m n (next_of m (address_of list p)) (ap (λ (v : ℕ). name_of (link_read v)) led ∙ ends) to)
  found p (x ∷ xs) all led to =
      ⊎_elim (λ (same : n ≡ begins x). record { member = x; at = sym same; is = all.0 })
      (λ (more : IsLedTo m n (next_of m (begins x))).
      found (After x) xs all.1 led.1 (subst (λ (a : ℕ). IsLedTo m n (next_of m a)) (first_word (id_of x / 32)) more))
      (way_on m n (begins x) (next_of m (address_of list p)) (ap (λ (v : ℕ). name_of (link_read v)) led.0 ∙ named x all.0) to)

-- ---- the law

pub chain_is_standing : ChainIsStanding
chain_is_standing m d f n frames low to =
    let s : Schedule = d.periodic.list.members.schedule in
    let o : Option Work = d.periodic.list.work in
    let kept : IsKept d.periodic.list.members.schedule = frames.list.order.kept in
    let along : IsLedAlong d.periodic.list.list d.periodic.list.members.schedule d.periodic.list.work (word_at m) f
    = led_along d.periodic.list.list d.periodic.list.members.schedule d.periodic.list.work
    (word_at m) f kept frames.spread frames.list.order.member frames.list.words low in
    let name_is : (x : Member) → is_linked d.periodic.list.members.schedule x ≡ true → name_of (link_read (id_of x)) ≡ Some (begins x)
    = λ x on.
    ap name_of (links_tell_structures d frames.listed (frame_of x) (id_of x)
    (record {
      next = Some x;
      stands = (on, (first_frame_is x (member_of_kept d.periodic.list.members.schedule x kept on)).1);
      word = refl;
    }))
    ∙ structure_name d.periodic x in
    let ends : name_of (link_read 1) ≡ None = ap name_of
    (links_tell_structures d frames.listed f 1 (record { next = None; stands = tt; word = refl })) in
    let there : IsFound (IsShownAs d.periodic.list.members.schedule d.periodic.list.work f) n
    = found m d.periodic.list.list n (IsShownAs d.periodic.list.members.schedule d.periodic.list.work f) ends
    (λ x h. name_is x (led_linked d.periodic.list.members.schedule d.periodic.list.work x h.linked))
    (Element f) along.members along.all along.led to in
    record { member = there.member; at = there.at; linked = there.is.linked; in_frame = there.is.in_frame; stays = there.is.stays }
