-- A store of the frame list leaves each way of the frame's to a structure, unless it unlinks that there: it puts a member between two others of the way, or takes one out of it (EHCI 1.0,
-- 3.1, 3.3.1 and 4.6).
use Rattle.std.proofs.Common.{◌≡◌, ◌≢◌, ℕ, zero, suc, ◌+◌, ◌<◌, ◌⊎◌, inl, inr, Bool, true, false, List, [], ◌∷◌, ◌++◌, Option, Some, None, if◌then◌else◌, ⊎_elim, ap, refl, sym, subst, ◌∙◌, arith}
use Rattle.std.specs.Prelude.{◌||◌, slice_get, take}
use Rattle.std.proofs.lemmas.Bool.{true≢false, false≢true, and_parts, and_from, or_cases, eqb-true, cases_eq, cases_Bool}
use Rattle.std.proofs.lemmas.Option.{same_Some}
use Rattle.law_common.proofs.Booleans.{right_or}
use Rattle.law_descriptors.proofs.Common.{gone}
use Rattle.law_frame_words.proofs.Common.{word_itself}
use Rattle.word_mem.specs.Memory.{Mem}
use Rattle.link_words.specs.Links.{link_read}
use Rattle.drv_chains.specs.declared.members.Member.{Member}
use Rattle.drv_chains.specs.declared.members.Member.TheVariants.{Once, Each}
use Rattle.drv_chains.specs.declared.members.Predecessor.{Predecessor}
use Rattle.drv_chains.specs.declared.members.Predecessor.TheVariants.{Element}
use Rattle.drv_chains.specs.Chains.{Schedule, of_lists, is_period, stands_in, has_word, predecessor, successor}
use Rattle.drv_chains.specs.Stores.{is_word, is_among, is_made}
use Rattle.drv_chains.proofs.Following.{follows}
use Rattle.drv_members.specs.Ranks.{is_named}
use Rattle.drv_members.specs.Members.{IsKept, IsMember, is_linked, without_member, with_schedule, frame_of}
use Rattle.drv_members.proofs.Keeping.{queue_at, queue_named}
use Rattle.drv_members.proofs.Splits.{IsAt}
use Rattle.drv_periodic.specs.declared.work.Work.{Work}
use Rattle.drv_periodic.specs.declared.work.Store.{Store}
use Rattle.drv_periodic.specs.Periodic.{Periodic, words_of, address_of, is_more, members_after, after_work, after_store}
use Rattle.drv_table.specs.DriverContent.{DriverContent}
use Rattle.claims_driver.specs.FrameWords.{made_of}
use Rattle.claims_driver.specs.Unlinked.{is_led, led, led_in}
use Rattle.law_frame_words.proofs.lemmas.frame_words.Stored.{queue_put}
use Rattle.claims_world.specs.Visits.{name_of, next_of, IsLedTo, is_there, leads_on, begins}
use Rattle.law_microframes.specs.visits.Ranks.{IsRanked}
use Rattle.law_microframes.specs.visits.Visited.{StandsIn}
use Rattle.law_microframes.proofs.lemmas.visits.AheadStores.{word_before}
use Rattle.law_microframes.proofs.lemmas.visits.LinkSteps.{ListStep, GoesAt, at_element, at_member, next_name, g as its_word, goes, its as its_way, schedule, one_name, all_led, then_linked, other_led, own, value_false, value_true, before_false, before_true}
use Rattle.law_microframes.proofs.lemmas.visits.NoneLeft.{way_on}
use Rattle.law_microframes.proofs.lemmas.visits.SpliceWords.{IsBefore, serves_by}

-- ---- a member's word in each frame that has it

pub same_word : (s : Schedule) (x : Member) (f g : ℕ) → IsKept s → IsMember x → is_linked s x ≡ true → stands_in g x ≡ true
    → has_word f (predecessor s x g) ≡ true
    → predecessor s x f ≡ predecessor s x g
same_word s (Once d) f g kept is on stands has =
    let there : stands_in f (Once d) ≡ true = serves_by s (Once d) f g kept is on stands has in
    ap (predecessor s (Once d)) (sym (eqb-true d.frame f there) ∙ eqb-true d.frame g stands)
same_word s (Each q) f g kept is on stands has =
    let at : IsAt (is_named q.id) q s.queues = queue_at s q kept on in
    let named = queue_named s q kept at in
    let period : is_period q.period ≡ true = (and_parts (is_period q.period) _ is).0 in
    let put : s ≡ of_lists s.descriptors (at.front ++ q ∷ at.back) = queue_put s q at in
    ap (λ (t : Schedule). predecessor t (Each q) f) put
    ∙ (follows s.descriptors at.front at.back q f g named period stands
    (ap (λ (t : Schedule). has_word f (predecessor t (Each q) g)) (sym put) ∙ has)).1
    ∙ ap (λ (t : Schedule). predecessor t (Each q) g) (sym put)

-- ---- which stores were made

pub among_next : (ws : List Predecessor) (k : ℕ) (v : Predecessor) → slice_get ws k ≡ Some v → is_among (take (suc k) ws) v ≡ true
among_next [] k v there = absurd cc
among_next (x ∷ xs) zero v there = ap (λ (b : Bool). b || false)
    (ap (λ (y : Predecessor). is_word y v) (same_Some x v there) ∙ word_itself v)
among_next (x ∷ xs) (suc k) v there = right_or (is_word x v) (is_among (take (suc k) xs) v) (among_next xs k v there)

among_more : (ws : List Predecessor) (k : ℕ) (v : Predecessor) → is_among (take k ws) v ≡ true → is_among (take (suc k) ws) v ≡ true
among_more [] zero v on = absurd (false≢true on)
among_more [] (suc k) v on = absurd (false≢true on)
among_more (x ∷ xs) zero v on = absurd (false≢true on)
among_more (x ∷ xs) (suc k) v on =
    ⊎_elim (λ (it : is_word x v ≡ true). ap (λ (b : Bool). b || is_among (take (suc k) xs) v) it)
    (λ (later : is_among (take k xs) v ≡ true). right_or (is_word x v) (is_among (take (suc k) xs) v) (among_more xs k v later))
    (or_cases (is_word x v) (is_among (take k xs) v) on)

not_yet : (a b : Bool) → (a ≡ true → b ≡ true) → b ≡ false → a ≡ false
not_yet false b more off = refl
not_yet true b more off = absurd (true≢false (sym (more refl) ∙ off))

-- ---- a store

module _ (m mem : Mem) (d new : DriverContent) (p : Periodic) (w : Work) (st : Store) (k : ListStep m mem d new p w st) where
  abbrev s : Schedule
  s = p.members.schedule

  abbrev word : Predecessor
  word = (its_word m mem d new p w st k).word

  one_more : w.made + 1 ≡ suc w.made
  one_more = omega arith

  one_is : (x y : Member) → is_linked p.members.schedule x ≡ true → is_linked p.members.schedule y ≡ true → begins x ≡ begins y → x ≡ y
  one_is = one_name m mem d new p w st k

  -- after the last store of a removal it isn't linked
  left_all : (x : Member) → w.removes ≡ true → x ≡ w.member → is_more p.members.schedule w ≡ false → is_linked (led new) x ≡ true → ⊥
  left_all x removes is last on =
      let list : after_store p ≡ record { list = p.list; members = members_after p.members w; work = None }
      = ap (after_work p) k.under
      ∙ ap (λ (b : Bool). if b then record p { work = Some (record w { made = w.made + 1 }) } else record
      { list = p.list; members = members_after p.members w; work = None }) last in
      let fewer : led_in (after_store p) ≡ without_member p.members.schedule w.member
      = ap led_in list ∙ ap
      (λ (b : Bool). (if b then with_schedule p.members (without_member p.members.schedule w.member) else p.members).schedule) removes in
      true≢false (sym on ∙ ap (λ (t : Schedule). is_linked t x) (k.after ∙ fewer)
      ∙ ap (is_linked (without_member p.members.schedule w.member)) is ∙ gone p.members.schedule w.member)

  -- before it the store is told to be made
  told_made : (x : Member) (f : ℕ) → w.removes ≡ true → x ≡ w.member → is_linked (led new) x ≡ true
      → ((v : Work) → new.periodic.list.work ≡ Some v → v.removes ≡ true → v.member ≡ x
      → is_made new.periodic.list.members.schedule v.member (made_of new.periodic.list.members.schedule v) f ≡ false)
      → is_made p.members.schedule w.member (take (suc w.made) (words_of p.members.schedule w)) f ≡ false
  told_made x f removes is on stays =
      ⊎_elim
      (λ (more : is_more p.members.schedule w ≡ true).
      let list : after_store p ≡ record p { work = Some (record w { made = w.made + 1 }) }
      = ap (after_work p) k.under
      ∙ ap (λ (b : Bool). if b then record p { work = Some (record w { made = w.made + 1 }) } else record
      { list = p.list; members = members_after p.members w; work = None }) more in
      let goes_on : new.periodic.list ≡ record p { work = Some (record w { made = w.made + 1 }) }
      = k.goes (record w { made = w.made + 1 }) (ap (λ (q : Periodic). q.work) list) ∙ list in
      let told = stays (record w { made = w.made + 1 }) (ap (λ (q : Periodic). q.work) goes_on) removes (sym is) in
      subst (λ (n : ℕ). is_made p.members.schedule w.member (take n (words_of p.members.schedule w)) f ≡ false) one_more
      (subst (λ (q : Periodic). is_made q.members.schedule w.member (take (w.made + 1) (words_of q.members.schedule w)) f ≡ false) goes_on
      told))
      (λ (last : is_more p.members.schedule w ≡ false). absurd (left_all x removes is last on)) (cases_Bool (is_more p.members.schedule w))

  -- ---- who stands in the frame stood there

  pub stood : (f n : ℕ) → (n ≢ begins w.member) ⊎ (is_led w ≡ true) → StandsIn new f n → StandsIn d f n
  stood f n known h =
      let on : is_linked p.members.schedule h.member ≡ true = then_linked m mem d new p w st k h.member h.linked in
      let its = its_way m mem d new p w st k in
      record {
        member = h.member;
        at = h.at;
        linked = ⊎_elim
            (λ (same : begins h.member ≡ begins w.member).
            ⊎_elim (λ (other : n ≢ begins w.member). absurd (other (sym h.at ∙ same)))
            (λ (led_on : is_led w ≡ true). ap (λ (t : Schedule). is_linked t h.member) (all_led m mem d new p w st k led_on) ∙ on) known)
            (λ (differs : begins h.member ≢ begins w.member). other_led m mem d new p w st k h.member on
            (λ (same : h.member ≡ w.member). differs (ap begins same)))
            (cases_eq (begins h.member) (begins w.member));
        in_frame = h.in_frame;
        stays = λ v is removes of_it.
            (let one : v ≡ w = k.same v is in
            let way_removes : w.removes ≡ true = ap (λ (x : Work). x.removes) (sym one) ∙ removes in
            let way_of : h.member ≡ w.member = sym of_it ∙ ap (λ (x : Work). x.member) one in
            let later = told_made h.member f way_removes way_of h.linked h.stays in
            let now : is_made p.members.schedule w.member (made_of p.members.schedule w) f ≡ false
            = not_yet (is_made p.members.schedule w.member (made_of p.members.schedule w) f)
            (is_made p.members.schedule w.member (take (suc w.made) (words_of p.members.schedule w)) f)
            (λ made.
            (let both = and_parts (stands_in f w.member)
            (is_among (made_of p.members.schedule w) (predecessor p.members.schedule w.member f)) made in
            and_from (stands_in f w.member)
            (is_among (take (suc w.made) (words_of p.members.schedule w)) (predecessor p.members.schedule w.member f)) both.0
            (among_more (words_of p.members.schedule w) w.made (predecessor p.members.schedule w.member f) both.1))) later in
            subst (λ (x : Work). is_made d.periodic.list.members.schedule x.member (made_of d.periodic.list.members.schedule x) f ≡ false)
            (sym one)
            (subst (λ (t : Schedule). is_made t w.member (made_of t w) f ≡ false) (schedule m mem d new p w st k) now));
      }

  -- the store unlinks no member that stands in a frame of the word
  pub spared : (f n : ℕ) → StandsIn new f n → w.removes ≡ true → n ≡ begins w.member → has_word f word ≡ true → ⊥
  spared f n h removes same has =
      let on : is_linked p.members.schedule h.member ≡ true = then_linked m mem d new p w st k h.member h.linked in
      let its = its_way m mem d new p w st k in
      let is : h.member ≡ w.member = one_is h.member w.member on its.1 (h.at ∙ same) in
      let b : IsBefore p.members.schedule w.member word = word_before m mem d new p w st k in
      let same_one : predecessor p.members.schedule w.member f ≡ word
      = same_word p.members.schedule w.member f b.frame k.order.kept its.0 its.1 b.stands (ap (has_word f) (sym b.is) ∙ has) ∙ sym b.is in
      let made : is_among (take (suc w.made) (words_of p.members.schedule w)) (predecessor p.members.schedule w.member f) ≡ true
      = ap (is_among (take (suc w.made) (words_of p.members.schedule w))) same_one
      ∙ among_next (words_of p.members.schedule w) w.made word (its_word m mem d new p w st k).here in
      true≢false
      (sym (and_from (stands_in f w.member)
      (is_among (take (suc w.made) (words_of p.members.schedule w)) (predecessor p.members.schedule w.member f))
      (ap (stands_in f) (sym is) ∙ h.in_frame) made)
      ∙ told_made h.member f removes is h.linked h.stays)

  -- ---- a way goes on

  module _ (kept : ℕ → Bool) (height : ℕ → ℕ) (who : ℕ → Member) (r : IsRanked m d kept height who)
      (links : (a : ℕ) → kept a ≡ true → a ≢ st.at → next_of mem a ≡ next_of m a)
      (here : kept st.at ≡ true → next_of mem st.at ≡ name_of (link_read st.value))
      (beside : (i : ℕ) → i < 1024 → st.at ≡ address_of p.list (Element i) → kept st.at ≡ true → ⊥)
      (own_link : next_of mem (begins w.member) ≡ next_of m (begins w.member)) (f n : ℕ) (low : f < 1024)
      (safe : w.removes ≡ true → n ≡ begins w.member → has_word f (its_word m mem d new p w st k).word ≡ true → ⊥) where
    abbrev behind : Option ℕ
    behind = next_name (successor p.members.schedule w.member (frame_of w.member))

    -- its word is one of the frame, where it is on the way
    word_has : kept st.at ≡ true → stands_in f (who st.at) ≡ true → has_word f word ≡ true
    word_has on stands = by (goes m mem d new p w st k)
      where
        by : GoesAt p w st word → has_word f word ≡ true
        by (at_element i low at is) = absurd (beside i low at on)
        by (at_member x linked other at is) =
            ap (has_word f) is ∙ ap (stands_in f) (sym (ap who at ∙ r.stand x (other_led m mem d new p w st k x linked other))) ∙ stands

    own_leads : next_of mem (begins w.member) ≡ behind
    own_leads = own_link ∙ own m mem d new p w st k

    at_store : (b : Bool) → w.removes ≡ b → kept st.at ≡ true → stands_in f (who st.at) ≡ true → IsLedTo mem n (next_of m st.at)
        → IsLedTo mem n (next_of mem st.at)
    at_store false adds on stands led_there =
        subst (IsLedTo mem n) (sym (here on ∙ value_false m mem d new p w st k adds))
        (⊎_elim (λ (same : next_of m st.at ≡ Some (begins w.member)). subst (IsLedTo mem n) same led_there)
        (λ (past : next_of m st.at ≡ behind). leads_on (begins w.member) (subst (IsLedTo mem n) (past ∙ sym own_leads) led_there))
        (before_false m mem d new p w st k adds))
    at_store true removes on stands led_there =
        subst (IsLedTo mem n) (sym (here on ∙ value_true m mem d new p w st k removes))
        (⊎_elim (λ (same : next_of m st.at ≡ behind). subst (IsLedTo mem n) same led_there)
        (λ (past : next_of m st.at ≡ Some (begins w.member)).
        ⊎_elim (λ (it : n ≡ begins w.member). absurd (safe removes it (word_has on stands)))
        (λ (more : IsLedTo mem n (next_of mem (begins w.member))). subst (IsLedTo mem n) own_leads more)
        (way_on mem n (begins w.member) (next_of m st.at) past led_there))
        (before_true m mem d new p w st k removes))

    pub way_spliced : (o : Option ℕ) → ((a : ℕ) → o ≡ Some a → (kept a ≡ true) × (stands_in f (who a) ≡ true)) → IsLedTo m n o
        → IsLedTo mem n o
    way_spliced _ on is_there = is_there
    way_spliced _ on (leads_on a more) =
        let its = on a refl in
        leads_on a (next_spliced a its.0 its.1
        (way_spliced (next_of m a) (λ b is. (r.closed a b its.0 is, r.shares a b f low its.0 is its.1)) more))
      where
        next_spliced : (a : ℕ) → kept a ≡ true → stands_in f (who a) ≡ true → IsLedTo mem n (next_of m a) → IsLedTo mem n (next_of mem a)
        next_spliced a on stands led_there =
            ⊎_elim (λ (same : a ≡ st.at).
            subst (λ (i : ℕ). IsLedTo mem n (next_of mem i)) (sym same)
            (at_store w.removes refl (subst (λ (i : ℕ). kept i ≡ true) same on) (subst (λ (i : ℕ). stands_in f (who i) ≡ true) same stands)
            (subst (λ (i : ℕ). IsLedTo mem n (next_of m i)) same led_there)))
            (λ (differs : a ≢ st.at). subst (IsLedTo mem n) (sym (links a on differs)) led_there) (cases_eq a st.at)

  -- ---- a way back

  -- what the way comes to after the store it came to before, unless the store links that
  module _ (kept : ℕ → Bool) (height : ℕ → ℕ) (who : ℕ → Member) (r : IsRanked m d kept height who)
      (links : (a : ℕ) → kept a ≡ true → a ≢ st.at → next_of mem a ≡ next_of m a)
      (here : kept st.at ≡ true → next_of mem st.at ≡ name_of (link_read st.value))
      (own_link : next_of mem (begins w.member) ≡ next_of m (begins w.member)) (f n : ℕ) (low : f < 1024)
      (off : w.removes ≡ false → n ≢ begins w.member) where
    abbrev past : Option ℕ
    past = next_name (successor p.members.schedule w.member (frame_of w.member))

    abbrev Keeps : ℕ → Type 0
    Keeps a = (kept a ≡ true) × (stands_in f (who a) ≡ true)

    -- the member that it links
    record IsNewly (a : ℕ) : Type 0 where
      adds : w.removes ≡ false
      is : a ≡ begins w.member
      later : (b : ℕ) → past ≡ Some b → Keeps b

    on_by : (a : ℕ) → Keeps a → (b : ℕ) → next_of m a ≡ Some b → Keeps b
    on_by a on b is = (r.closed a b on.0 is, r.shares a b f low on.0 is on.1)

    own_is : next_of m (begins w.member) ≡ past
    own_is = own m mem d new p w st k

    past_keeps : Keeps st.at → (b : ℕ) → past ≡ Some b → Keeps b
    past_keeps on b is = by w.removes refl
      where
        by_name : next_of m st.at ≡ Some (begins w.member) → Keeps b
        by_name leads = on_by (begins w.member) (on_by st.at on (begins w.member) leads) b (own_is ∙ is)

        by_past : next_of m st.at ≡ past → Keeps b
        by_past leads = on_by st.at on b (leads ∙ is)

        by : (c : Bool) → w.removes ≡ c → Keeps b
        by false adds = ⊎_elim (λ (one : next_of m st.at ≡ Some (begins w.member)). by_name one)
            (λ (two : next_of m st.at ≡ past). by_past two) (before_false m mem d new p w st k adds)
        by true removes = ⊎_elim (λ (two : next_of m st.at ≡ past). by_past two)
            (λ (one : next_of m st.at ≡ Some (begins w.member)). by_name one) (before_true m mem d new p w st k removes)

    stored_on : Keeps st.at → (b : ℕ) → next_of mem st.at ≡ Some b → Keeps b ⊎ IsNewly b
    stored_on on b is = by w.removes refl
      where
        by : (c : Bool) → w.removes ≡ c → Keeps b ⊎ IsNewly b
        by false adds =
            inr (record {
              adds = adds;
              is = sym (same_Some (begins w.member) b (sym (here on.0 ∙ value_false m mem d new p w st k adds) ∙ is));
              later = past_keeps on;
            })
        by true removes = inl (past_keeps on b (sym (here on.0 ∙ value_true m mem d new p w st k removes) ∙ is))

    next_on : (a : ℕ) → Keeps a ⊎ IsNewly a → (b : ℕ) → next_of mem a ≡ Some b → Keeps b ⊎ IsNewly b
    next_on a (inl on) b is =
        ⊎_elim {C = Keeps b ⊎ IsNewly b} (λ (same : a ≡ st.at).
        stored_on (subst Keeps same on) b (ap (next_of mem) (sym same) ∙ is))
        (λ (differs : a ≢ st.at). inl (on_by a on b (sym (links a on.0 differs) ∙ is))) (cases_eq a st.at)
    next_on a (inr new) b is = inl (new.later b (sym (own_link ∙ own_is) ∙ (ap (next_of mem) (sym new.is) ∙ is)))

    stored_back : Keeps st.at → (c : Bool) → w.removes ≡ c → IsLedTo m n (next_of mem st.at) → IsLedTo m n (next_of m st.at)
    stored_back on false adds led_there =
        ⊎_elim (λ (it : n ≡ begins w.member). absurd (off adds it))
        (λ (more : IsLedTo m n (next_of m (begins w.member))).
        ⊎_elim (λ (one : next_of m st.at ≡ Some (begins w.member)). subst (IsLedTo m n) (sym one) (leads_on (begins w.member) more))
        (λ (two : next_of m st.at ≡ past). subst (IsLedTo m n) (own_is ∙ sym two) more) (before_false m mem d new p w st k adds))
        (way_on m n (begins w.member) (next_of mem st.at) (here on.0 ∙ value_false m mem d new p w st k adds) led_there)
    stored_back on true removes led_there =
        let there : IsLedTo m n past = subst (IsLedTo m n) (here on.0 ∙ value_true m mem d new p w st k removes) led_there in
        ⊎_elim (λ (two : next_of m st.at ≡ past). subst (IsLedTo m n) (sym two) there)
        (λ (one : next_of m st.at ≡ Some (begins w.member)).
        subst (IsLedTo m n) (sym one) (leads_on (begins w.member) (subst (IsLedTo m n) (sym own_is) there)))
        (before_true m mem d new p w st k removes)

    next_back : (a : ℕ) → Keeps a ⊎ IsNewly a → IsLedTo m n (next_of mem a) → IsLedTo m n (next_of m a)
    next_back a (inl on) led_there =
        ⊎_elim (λ (same : a ≡ st.at).
        subst (λ (i : ℕ). IsLedTo m n (next_of m i)) (sym same)
        (stored_back (subst Keeps same on) w.removes refl (subst (λ (i : ℕ). IsLedTo m n (next_of mem i)) same led_there)))
        (λ (differs : a ≢ st.at). subst (IsLedTo m n) (links a on.0 differs) led_there) (cases_eq a st.at)
    next_back a (inr new) led_there =
        subst (λ (i : ℕ). IsLedTo m n (next_of m i)) (sym new.is)
        (subst (IsLedTo m n) own_link (subst (λ (i : ℕ). IsLedTo m n (next_of mem i)) new.is led_there))

    back_by : (o : Option ℕ) → ((a : ℕ) → o ≡ Some a → Keeps a ⊎ IsNewly a) → IsLedTo mem n o → IsLedTo m n o
    back_by _ on is_there = is_there
    back_by _ on (leads_on a more) =
        leads_on a (next_back a (on a refl) (back_by (next_of mem a) (λ b is. next_on a (on a refl) b is) more))

    pub way_back : (o : Option ℕ) → ((a : ℕ) → o ≡ Some a → (kept a ≡ true) × (stands_in f (who a) ≡ true)) → IsLedTo mem n o → IsLedTo m n o
    way_back o on led_there = back_by o (λ a is. inl (on a is)) led_there
