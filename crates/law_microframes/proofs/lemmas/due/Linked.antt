-- The links of each frame of a member lead to it, while others are linked and unlinked, and while it is itself, where the store that links
-- it there is made, or the one that unlinks it isn't yet (EHCI 1.0, 3.1, 3.6.1 and 4.6).
use Rattle.std.proofs.Common.{◌≡◌, ◌≢◌, ℕ, ◌+◌, ◌*◌, ◌/◌, ◌<◌, Bool, true, false, if◌then◌else◌, List, [], ◌∷◌, Option, Some, None, ⊎_elim}
use Rattle.std.proofs.Common.{ap, refl, sym, subst, ◌∙◌, not}
use Rattle.std.specs.List.{AllByRecursion, list_any}
use Rattle.std.proofs.lemmas.Bool.{false≢true, cases_Bool, eqb-true, or_cases}
use Rattle.law_descriptors.proofs.Common.{others_led}
use Rattle.law_common.proofs.Numbers.{first_word}
use Rattle.word_mem.specs.Memory.{Mem, word_at}
use Rattle.link_words.specs.Links.{link_read}
use Rattle.drv_chains.specs.declared.members.Member.{Member}
use Rattle.drv_chains.specs.declared.members.Member.TheVariants.{Each}
use Rattle.drv_chains.specs.declared.members.QueueHead.{QueueHead}
use Rattle.drv_chains.specs.declared.members.Predecessor.{Predecessor}
use Rattle.drv_chains.specs.declared.members.Predecessor.TheVariants.{Element, After}
use Rattle.drv_chains.specs.Chains.{Schedule, id_of, is_the, stands_in, chain}
use Rattle.drv_chains.specs.Stores.{is_made}
use Rattle.drv_chains.proofs.Linking.{weaken}
use Rattle.drv_members.specs.Members.{IsKept, is_linked, without_member, frame_of}
use Rattle.drv_members.proofs.Keeping.{keeps_without}
use Rattle.drv_periodic.specs.declared.work.Work.{Work}
use Rattle.drv_periodic.specs.Periodic.{address_of}
use Rattle.drv_table.specs.DriverContent.{DriverContent}
use Rattle.claims_base.specs.Controller.{Base, opening_base}
use Rattle.claims_driver.specs.FrameWords.{Leads, made_of, StandsBy, HasMember}
use Rattle.claims_driver.specs.Unlinked.{is_led, led_by, led}
use Rattle.claims_world.specs.Visits.{name_of, next_of, IsLedTo, is_there, leads_on, IsInChain, begins}
use Rattle.law_frame_words.specs.frame_words.InWords.{shown}
use Rattle.law_frame_words.proofs.lemmas.frame_words.InChains.{fewer_in}
use Rattle.law_frame_words.proofs.lemmas.frame_words.Steps.{frames_while_under_way}
use Rattle.law_frame_list.specs.list_closed.Closed.{IsInFrame}
use Rattle.law_frame_list.proofs.lemmas.list_closed.Chained.{chain_in_frame, first_frame_is, member_of_kept, in_chain, still_linked}
use Rattle.law_frame_list.proofs.lemmas.list_closed.Structures.{links_tell_structures}
use Rattle.law_frames.specs.Met.{Kind, AQueue}
use Rattle.law_descriptors.specs.Meeting.{or_recent, met}
use Rattle.law_descriptors.specs.RowLaws.{HasFrames}
use Rattle.law_descriptors.proofs.Finding.{member_kind}
use Rattle.law_descriptors.proofs.Leading.{led_spread}
use Rattle.bus_world.specs.World.{World, controller_parts}
use Rattle.law_world.specs.memory.Mixed.{Standing, IsMixedAt}
use Rattle.law_world.proofs.lemmas.memory.lemmas.framed_memory.Now.{now_has_frames, begins_there}
use Rattle.law_microframes.proofs.lemmas.visits.VisitElements.{structure_name}

-- ---- in the chain that the words link

abbrev AreLinkedIn : Schedule → List Member → Type 0
AreLinkedIn s ms = AllByRecursion (λ y. is_linked s y ≡ true) ms

-- those of the chain are of the schedule, and x is one of them
record HasIn (s : Schedule) (x : Member) (ms : List Member) : Type 0 where
  all : AreLinkedIn s ms
  any : list_any (is_the x) ms ≡ true

module _ (s : Schedule) (f : ℕ) (x : Member) (kept : IsKept s) (on : is_linked s x ≡ true) (stands : stands_in f x ≡ true) where
  whole : HasIn s x (chain s f)
  whole = record {
    all = weaken (IsInFrame s f) (λ y. is_linked s y ≡ true) (λ y h. h.0) (chain s f) (chain_in_frame s f kept);
    any = in_chain s f x kept (on, stands);
  }

  -- what links it has made its store in the frame, what unlinks it hasn't
  module _ (v : Work) (own : is_made s v.member (made_of s v) f ≡ not v.removes) where
    own_by : (made removes : Bool) → made ≡ not removes
        → HasIn s x (if made then chain (if removes then without_member s v.member else s) f else chain
        (if removes then s else without_member s v.member) f)
    own_by true true is = absurd (false≢true (sym is))
    own_by true false is = whole
    own_by false true is = whole
    own_by false false is = absurd (false≢true is)

    shown_own : HasIn s x (shown s v f)
    shown_own = own_by (is_made s v.member (made_of s v) f) v.removes own

  module _ (v : Work) (other : is_the v.member x ≡ false) where
    fewer : HasIn s x (chain (without_member s v.member) f)
    fewer = record {
      all = weaken (IsInFrame (without_member s v.member) f) (λ y. is_linked s y ≡ true) (λ y h. fewer_in s v.member y h.0)
          (chain (without_member s v.member) f) (chain_in_frame (without_member s v.member) f (keeps_without s v.member kept));
      any = in_chain (without_member s v.member) f x (keeps_without s v.member kept) (still_linked s v.member x other on, stands);
    }

    by_both : (made removes : Bool)
        → HasIn s x (if made then chain (if removes then without_member s v.member else s) f else chain
        (if removes then s else without_member s v.member) f)
    by_both true true = fewer
    by_both true false = whole
    by_both false true = whole
    by_both false false = fewer

    shown_has : HasIn s x (shown s v f)
    shown_has = by_both (is_made s v.member (made_of s v) f) v.removes

-- ---- along the words

module _ (m : Mem) (list : ℕ) (s : Schedule) (x : Member)
    (named : (y : Member) → is_linked s y ≡ true → name_of (link_read (id_of y)) ≡ Some (begins y)) where
  led_along : (p : Predecessor) (ms : List Member) → AreLinkedIn s ms → list_any (is_the x) ms ≡ true → Leads list (word_at m) p ms
      → IsLedTo m (begins x) (next_of m (address_of list p))
  unfolding Leads
  led_along p [] all any leads = absurd (false≢true any)
  led_along p (y ∷ ys) all any leads =
      let next : next_of m (address_of list p) ≡ Some (begins y) = ap (λ (w : ℕ). name_of (link_read w)) leads.0 ∙ named y all.0 in
      subst (IsLedTo m (begins x)) (sym next)
      (⊎_elim
      (λ (here : is_the x y ≡ true).
      subst (λ (a : ℕ). IsLedTo m (begins x) (Some a)) (ap (λ (i : ℕ). 32 * (i / 32)) (sym (eqb-true (id_of y) (id_of x) here))) is_there)
      (λ (later : list_any (is_the x) ys ≡ true).
      leads_on (begins y) (subst (λ (a : ℕ). IsLedTo m (begins x) (next_of m a)) (sym (first_word (id_of y / 32)))
      (led_along (After y) ys all.1 later leads.1)))
      (or_cases (is_the x y) (list_any (is_the x) ys) any))

-- ---- a frame

module _ (m : Mem) (d : DriverContent) (frames : HasFrames m d) (x : Member) (on : is_linked d.periodic.list.members.schedule x ≡ true)
  where
    -- members of one name are one
    same_name : (v : Work) → is_linked d.periodic.list.members.schedule v.member ≡ true → is_the v.member x ≡ true → v.member ≡ x
    same_name v there same =
        frames.spread.once v.member x there on (ap (λ (i : ℕ). i / 32) (sym (eqb-true (id_of x) (id_of v.member) same)))

    other_name : (v : Work) → v.member ≢ x → is_linked d.periodic.list.members.schedule v.member ≡ true → is_the v.member x ≡ false
    other_name v differs there =
        ⊎_elim (λ (same : is_the v.member x ≡ true). absurd (differs (same_name v there same)))
        (λ (other : is_the v.member x ≡ false). other) (cases_Bool (is_the v.member x))

-- where x itself is linked the store of the frame is made, and where it is unlinked it isn't yet
abbrev pub IsShownIn : DriverContent → ℕ → Member → Type 0
IsShownIn d f x = (v : Work) → d.periodic.list.work ≡ Some v → v.member ≡ x
    → is_made d.periodic.list.members.schedule v.member (made_of d.periodic.list.members.schedule v) f ≡ not v.removes

module _ (m : Mem) (d : DriverContent) (frames : HasFrames m d) (f : ℕ) (low : f < 1024) (x : Member)
    (on : is_linked d.periodic.list.members.schedule x ≡ true) (stands : stands_in f x ≡ true) (shows : IsShownIn d f x) where
  abbrev s : Schedule
  s = d.periodic.list.members.schedule

  kept : IsKept s
  kept = frames.list.order.kept

  named : (y : Member) → is_linked s y ≡ true → name_of (link_read (id_of y)) ≡ Some (begins y)
  named y there =
      ap name_of (links_tell_structures d frames.listed (frame_of y) (id_of y)
      (record { next = Some y; stands = (there, (first_frame_is y (member_of_kept s y kept there)).1); word = refl }))
      ∙ structure_name d.periodic y

  has_by : (v : Work) (b : Bool) → d.periodic.list.work ≡ Some v → is_linked s v.member ≡ true → is_the v.member x ≡ b
      → HasIn s x (shown s v f)
  has_by v true is there same = shown_own s f x kept on stands v (shows v is (same_name m d frames x on v there same))
  has_by v false is there other = shown_has s f x kept on stands v other

  by_work : (o : Option Work) → d.periodic.list.work ≡ o → HasMember s o → StandsBy d.periodic.list.list s o (word_at m)
      → IsLedTo m (begins x) (next_of m (address_of d.periodic.list.list (Element f)))
  by_work None is member words =
      let has = whole s f x kept on stands in
      led_along m d.periodic.list.list s x named (Element f) (chain s f) has.all has.any (words f low)
  by_work (Some v) is member words =
      let has = has_by v (is_the v.member x) is member.1 refl in
      led_along m d.periodic.list.list s x named (Element f) (shown s v f) has.all has.any
      (frames_while_under_way d.periodic.list.list s v (word_at m) f kept frames.spread member.0 member.1 words low)

  pub frame_leads : IsLedTo m (begins x) (next_of m (address_of d.periodic.list.list (Element f)))
  frame_leads = by_work d.periodic.list.work refl frames.list.order.member frames.list.words

-- ---- in a world

pub in_chain_shown : (s : Standing) (w : World) (f : ℕ) (x : Member) → IsMixedAt s w → f < 1024
    → is_linked w.driver.periodic.list.members.schedule x ≡ true → stands_in f x ≡ true → IsShownIn w.driver f x → IsInChain w f (begins x)
in_chain_shown s w f x k low on stands shows =
    let frames : HasFrames w.memory w.driver = now_has_frames opening_base s.member s.recent s.descs s.parts s.hand s.frame
    (controller_parts w) w.driver k.now in
    let base : w.registers.periodic_list_base ≡ 32 * w.driver.periodic.list.list = ap
    (λ (x : Base). x.periodic_list_base) k.now.framed.runs.ring.registers
    ∙ begins_there opening_base s.member s.recent s.descs s.parts s.hand s.frame (controller_parts w) w.driver k.now in
    subst (λ (b : ℕ). IsLedTo w.memory (begins x) (next_of w.memory (b + 4 * f))) (sym base)
    (frame_leads w.memory w.driver frames f low x on stands shows)

pub in_chain_of : (s : Standing) (w : World) (f : ℕ) (x : Member) → IsMixedAt s w → f < 1024
    → is_linked w.driver.periodic.list.members.schedule x ≡ true → stands_in f x ≡ true
    → ((v : Work) → w.driver.periodic.list.work ≡ Some v → v.member ≢ x) → IsInChain w f (begins x)
in_chain_of s w f x k low on stands idle = in_chain_shown s w f x k low on stands (λ v is same. absurd (idle v is same))

-- ---- it is met as a queue head

module _ (m : Mem) (d : DriverContent) (frames : HasFrames m d) (x : Member) (on : is_linked d.periodic.list.members.schedule x ≡ true)
    (idle : (v : Work) → d.periodic.list.work ≡ Some v → v.member ≢ x) where
  is_led_by : (o : Option Work) → d.periodic.list.work ≡ o → HasMember d.periodic.list.members.schedule o
      → is_linked (led_by d.periodic.list.members.schedule o) x ≡ true
  is_led_by None is member = on
  is_led_by (Some v) is member =
      others_led d.periodic.list.members.schedule v x (is_led v)
      (other_name m d frames x on v (idle v is) member.1) on

  pub is_led_to : is_linked (led d) x ≡ true
  is_led_to = is_led_by d.periodic.list.work refl frames.list.order.member

pub queue_met : (s : Standing) (w : World) (q : QueueHead) → IsMixedAt s w
    → is_linked w.driver.periodic.list.members.schedule (Each q) ≡ true
    → ((v : Work) → w.driver.periodic.list.work ≡ Some v → v.member ≢ Each q) → met w.driver s.recent (begins (Each q)) ≡ Some AQueue
queue_met s w q k on idle =
    let frames : HasFrames w.memory w.driver = now_has_frames opening_base s.member s.recent s.descs s.parts s.hand s.frame
    (controller_parts w) w.driver k.now in
    ap (λ (o : Option Kind). or_recent o (s.recent (begins (Each q))))
    (member_kind w.driver.periodic w.driver.periodic.list.list (led w.driver) (Each q)
    (led_spread w.driver.periodic.list.list w.driver.periodic.list.members.schedule w.driver.periodic.list.work frames.spread)
    (is_led_to w.memory w.driver frames (Each q) on idle))
