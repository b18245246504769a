-- Lemmas that several files need.
use Rattle.std.proofs.Common.{ℕ, List, ◌++◌, inr, ◌∷◌, inl, ⊎_elim, [], Option, ◌≡◌, None, Some, subst, Bool, if◌then◌else◌, true, false, refl, sym, ◌∙◌, ap, ◌≢◌, ◌<◌, not, ◌==◌, ◌&&◌, ◌+◌, length, ◌≤◌, arith}
use Rattle.std.specs.Prelude.{◌⊎◌}
use Rattle.std.proofs.lemmas.Bool.{false≢true, cases_eq, true≢false, eq-eqb}
use Rattle.usb_base.specs.declared.packets.Reply.{Reply}
use Rattle.usb_base.specs.declared.packets.Pid.{Pid}
use Rattle.word_mem.specs.Memory.{Mem, reaches}
use Rattle.mem_bytes.specs.Bytes.{place, all_reached}
use Rattle.mem_bytes.proofs.Reach.{all_reached_no}
use Rattle.op_registers.specs.RegisterFile.{RegisterFile}
use Rattle.toggle_error.specs.declared.host.Outcome.{Outcome}
use Rattle.toggle_error.specs.declared.host.Outcome.TheVariants.{Moved}
use Rattle.link_words.specs.declared.kinds.QtdLink.{QtdLink}
use Rattle.link_words.specs.Links.{qtd_link_of}
use Rattle.link_words.specs.declared.fields.ShortLink.{ShortLink}
use Rattle.link_words.specs.declared.fields.LinkBits.{LinkBits}
use Rattle.qh_qtd.specs.declared.queue_head.Qh.{Qh}
use Rattle.qh_qtd.specs.declared.qtd.Qtd.{Qtd}
use Rattle.transactions.specs.declared.pipe.Pipe.{Pipe}
use Rattle.hc_copy.specs.Visits.{next_pointer}
use Rattle.hc_copy.specs.WriteBack.{moved_by}
use Rattle.hc_copy.specs.Planning.{split_at}
use Rattle.async_walk.specs.declared.state.Cursor.{Cursor}
use Rattle.async_walk.specs.Rows.{cursor_link}
use Rattle.law_structures.specs.lent_structures.Structures.{Structure, Element, QueueHead, Buffer, StructureSets, put, Structures, with_structure, without_structure}
use Rattle.law_structures.proofs.lemmas.lent_structures.Names.{put_found, with_here, with_there, put_beside, gone_there, put_here}
use Rattle.law_structures.specs.lent_structures.WriteBack.{Received, received_parts, Nothing, Into, IsReceived}
use Rattle.law_structures.specs.lent_structures.Changes.{overwritten}
use Rattle.law_structures.specs.lent_structures.Sound.{LeadsOn, IsElement, IsSoundElement, IsSoundQueue, HasBuffer, buffer_name, element_pages, LeadsAmong, AreOwn}
use Rattle.law_structures.specs.lent_structures.Alters.{IsAfter, Alters}
use Rattle.law_structures.proofs.lemmas.lent_structures.Altering.{is_itself, no_two, found_element, unaltered, buffer_put}
use Rattle.law_structures.proofs.lemmas.lent_structures.Members.{leads_still}
use Rattle.law_structures.specs.lent_structures.Settles.{is_moved, Brings}
use Rattle.law_structures.proofs.lemmas.lent_structures.Storing.{length-overwritten}
use Rattle.law_ring.specs.Order.{IsAmong}
use Rattle.law_ring.specs.Front.{LinksRise, own_pointer, LinksWithin, IsBehind, IsPassed}
use Rattle.law_ring.specs.Effects.{bytes_in}
use Rattle.law_ring.specs.Hand.{Settlement}
use Rattle.law_ring.specs.Ring.{IsSettled}
use Rattle.law_ring.specs.Fewer.{fewer_structures, without_those}
use Rattle.law_ring.specs.Stores.{IsWider}
use Rattle.law_ring.specs.Told.{Endpoint, HasEndpoint}
use Rattle.usb_base.specs.declared.packets.Pid.TheVariants as Packets
use Rattle.usb_base.specs.declared.packets.Split.TheVariants as Splits
use Rattle.link_words.specs.declared.kinds.QtdLink.TheVariants as qtd_links
use Rattle.link_words.specs.declared.kinds.Link.TheVariants as links
use Rattle.async_walk.specs.declared.state.Cursor.TheVariants as cursors

pub among_either : (p : ℕ) (xs ys : List ℕ) → IsAmong p (xs ++ ys) → IsAmong p xs ⊎ IsAmong p ys
among_either p [] ys k = inr k
among_either p (x ∷ xs) ys (inl is) = inl (inl is)
among_either p (x ∷ xs) ys (inr k) =
    ⊎_elim (λ (front : IsAmong p xs). inl (inr front)) (λ (back : IsAmong p ys). inr back) (among_either p xs ys k)

pub none_some : (o : Option Structure) (s : Structure) → o ≡ None → o ≡ Some s → ⊥
none_some o s none some = cc

pub no_head : (q : Qh) (u : Qtd) → Element u ≡ QueueHead q → ⊥
no_head q u e = cc

pub no_buffer : (pages : List ℕ) (k : ℕ) (bs : List ℕ) (u : Qtd) → Element u ≡ Buffer pages k bs → ⊥
no_buffer pages k bs u e = cc

pub through_head : (ps : StructureSets) (a : ℕ) (q : Qh) (i b : ℕ) (u : Qtd) → put ps a a (QueueHead q) i b ≡ Some (Element u)
    → ps i b ≡ Some (Element u)
through_head ps a q i b u found =
    ⊎_elim (λ (is : (i ≡ a) × (b ≡ a) × (Element u ≡ QueueHead q)). absurd (no_head q u is.2))
    (λ (before : ps i b ≡ Some (Element u)). before) (put_found ps a a (QueueHead q) i b (Element u) found)

pub through_bytes : (ps : StructureSets) (a : ℕ) (got : List ℕ) (r : Received) (i b : ℕ) (u : Qtd)
    → received_parts ps a got r i b ≡ Some (Element u) → ps i b ≡ Some (Element u)
through_bytes ps a got Nothing i b u found = found
through_bytes ps a got (Into pages k bs j) i b u found =
    ⊎_elim (λ (is : (i ≡ a) × (b ≡ place pages k) × (Element u ≡ Buffer pages k (overwritten bs j got))).
    absurd (no_buffer pages k (overwritten bs j got) u is.2)) (λ (before : ps i b ≡ Some (Element u)). before)
    (put_found ps a (place pages k) (Buffer pages k (overwritten bs j got)) i b (Element u) found)

pub link_there : (part : Structures) (l : QtdLink) (c : ℕ) → LeadsOn part l → l ≡ qtd_links.To c → IsElement part c
link_there part l c leads is = subst (LeadsOn part) is leads

pub ended_after : (new : Qh) (t : Qtd) (b : Bool) → new.token.active ≡ b → IsAfter t (if b then t else record t { token = new.token })
ended_after new t true e = is_itself t
ended_after new t false e = record { token = new.token; is = refl; active = λ on. absurd (false≢true (sym e ∙ on)) }

pub buffer_before : (part : Structures) (a b : ℕ) (u : Qtd) (pages : List ℕ) (k : ℕ) (bs : List ℕ)
    → with_structure part a (Element u) b ≡ Some (Buffer pages k bs) → part b ≡ Some (Buffer pages k bs)
buffer_before part a b u pages k bs here =
    ⊎_elim (λ (same : b ≡ a). absurd (never (sym (with_here part a (Element u)) ∙ ap (with_structure part a (Element u)) (sym same)
    ∙ here)))
    (λ (differs : b ≢ a). sym (with_there part a (Element u) b differs) ∙ here) (cases_eq b a)
  where
    never : Some (Element u) ≡ Some (Buffer pages k bs) → ⊥
    never e = cc

pub received_beside : (parts : StructureSets) (n : ℕ) (got : List ℕ) (r : Received) (k : ℕ) → k ≢ n
    → received_parts parts n got r k ≡ parts k
received_beside parts n got Nothing k differs = refl
received_beside parts n got (Into pages i bs j) k differs =
    put_beside parts n (place pages i) (Buffer pages i (overwritten bs j got)) k differs

pub element_not_buffer : (part : Structures) (a b : ℕ) (t : Qtd) (pages : List ℕ) (k : ℕ) (bs : List ℕ) → part a ≡ Some (Element t)
    → part b ≡ Some (Buffer pages k bs) → b ≢ a
element_not_buffer part a b t pages k bs element buffer = no_two part b a (Buffer pages k bs) (Element t) buffer element (λ e. cc)

pub element_not_head : (part : Structures) (a b : ℕ) (t : Qtd) (q : Qh) → part a ≡ Some (Element t) → part b ≡ Some (QueueHead q) → b ≢ a
element_not_head part a b t q element head = no_two part b a (QueueHead q) (Element t) head element (λ e. cc)

pub changed_active : (part : Structures) (a : ℕ) (d new : Qtd) → part a ≡ Some (Element d) → d.token.active ≡ false → (b : ℕ) (t : Qtd)
    → part b ≡ Some (Element t) → t.token.active ≡ true → with_structure part a (Element new) b ≡ Some (Element t)
changed_active part a d new at off b t here on =
    with_there part a (Element new) b
    (λ same. true≢false (sym on ∙ ap (λ (x : Qtd). x.token.active) (found_element (part b) t d here (ap part same ∙ at)) ∙ off)) ∙ here

pub pointer_rises : (order : ℕ → ℕ) (part : Structures) (a : ℕ) (t : Qtd) (c : Bool) (b : ℕ) → LinksRise order part
    → part a ≡ Some (Element t) → qtd_link_of (if c then t.alternate else t.next) ≡ qtd_links.To b → order a < order b
pointer_rises order part a t true b rise here to = rise.alternate a t b here to
pointer_rises order part a t false b rise here to = rise.next a t b here to

pub same_pointer : (q : Qh) (t : Qtd) → q.next ≡ t.next → q.alternate ≡ t.alternate → q.token.total ≡ t.token.total
    → next_pointer q ≡ own_pointer t
same_pointer q t next alternate total =
    ap (λ (n : ℕ). if not (n == 0) && not q.alternate.t then q.alternate else q.next) total
    ∙ ap (λ (l : ShortLink). if not (t.token.total == 0) && not l.t then l else q.next) alternate
    ∙ ap (λ (l : ShortLink). if not (t.token.total == 0) && not t.alternate.t then t.alternate else l) next

pub same_cursor : (r s : RegisterFile) (c : Cursor) → s.async_list_address ≡ r.async_list_address → cursor_link s c ≡ cursor_link r c
same_cursor r s cursors.Start same = ap links.Qh same
same_cursor r s (cursors.At link) same = refl

pub one_link : (a c : ℕ) → links.Qh a ≡ links.Qh c → a ≡ c
one_link a c same = cc

pub own_there : (part : Structures) (t : Qtd) (c : Bool) (b : ℕ) → IsSoundElement part t
    → qtd_link_of (if c then t.alternate else t.next) ≡ qtd_links.To b → IsElement part b
own_there part t true b sound to = subst (LeadsOn part) to sound.alternate
own_there part t false b sound to = subst (LeadsOn part) to sound.next

pub bytes_beside_element : (part : Structures) (a : ℕ) (t u : Qtd) (b : ℕ) → part a ≡ Some (Element t)
    → bytes_in (with_structure part a (Element u) b) ≡ bytes_in (part b)
bytes_beside_element part a t u b here =
    ⊎_elim (λ (same_one : b ≡ a). ap bytes_in (ap (with_structure part a (Element u)) same_one ∙ with_here part a (Element u))
    ∙ sym (ap bytes_in (ap part same_one ∙ here)))
    (λ (differs : b ≢ a). ap bytes_in (with_there part a (Element u) b differs)) (cases_eq b a)

pub no_element : (q : Qh) (u : Qtd) → QueueHead q ≡ Element u → ⊥
no_element q u e = cc

pub element_no_head : (o : Option Structure) (t : Qtd) (q : Qh) → o ≡ Some (Element t) → o ≡ Some (QueueHead q) → ⊥
element_no_head o t q one other = cc

pub relinked_sound : (part : Structures) (q : Qh) (l : LinkBits) → IsSoundQueue part q → IsSoundQueue part (record q { link = l })
relinked_sound part q l s = record {
  rest = s.rest;
  work = λ on. let w = s.work on in record {
    element = w.element;
    here = w.here;
    published = w.published;
    goes_on = w.goes_on;
    pid =
        w.pid;
    pages = w.pages;
    next = w.next;
    alternate = w.alternate;
    fewer = w.fewer;
    place = w.place;
  };
}

pub sound_still : (part now : Structures) (q : Qh) → Alters part now
    → ((a : ℕ) (t : Qtd) → part a ≡ Some (Element t) → now a ≡ Some (Element t)) → IsSoundQueue part q → IsSoundQueue now q
sound_still part now q alters same s = record {
  rest = λ off idle. leads_still part now (qtd_link_of (next_pointer q)) alters (s.rest off idle);
  work = λ on. let w = s.work on in record {
    element = w.element;
    here = same q.current w.element w.here;
    published = w.published;
    goes_on =
        w.goes_on;
    pid = w.pid;
    pages = w.pages;
    next = w.next;
    alternate = w.alternate;
    fewer = w.fewer;
    place = w.place;
  };
}

pub settled_linked : (b : Bool) (l : LinkBits) (q : Qh) (reply : Reply) (s : Settlement) → IsSettled q reply s
    → IsSettled (if b then record q { link = l } else q) reply s
settled_linked true l q reply s k = record { works = k.works; host = k.host; bytes = k.bytes; got = k.got; are_bytes = k.are_bytes }
settled_linked false l q reply s k = k

pub nothing_there : (part : Structures) (a b : ℕ) (s : Structure) → part a ≡ None → part b ≡ Some s → b ≢ a
nothing_there part a b s none some same = none_some (part b) s (ap part same ∙ none) some

pub leads_without : (part : Structures) (a : ℕ) (l : QtdLink) → l ≢ qtd_links.To a → LeadsOn part l → LeadsOn (without_structure part a) l
leads_without part a qtd_links.End other leads = tt
leads_without part a (qtd_links.To b) other leads =
    record { qtd = leads.qtd; here = gone_there part a b (λ same. other (ap qtd_links.To same)) ∙ leads.here }

pub buffer_beside : (part : Structures) (a : ℕ) (d : Qtd) (t : Qtd) (n : ℕ) → part a ≡ Some (Element d) → HasBuffer part t n
    → HasBuffer (without_structure part a) t n
buffer_beside part a d t n at has = record {
  bytes = has.bytes;
  here = gone_there part a (buffer_name t) (element_not_buffer part a (buffer_name t) d (element_pages t) t.offset has.bytes at has.here)
      ∙ has.here;
  size = has.size;
}

pub leads_beside_buffer : (part : Structures) (a : ℕ) (pages : List ℕ) (k : ℕ) (bs : List ℕ) (l : QtdLink)
    → part a ≡ Some (Buffer pages k bs) → LeadsOn part l → LeadsOn (without_structure part a) l
leads_beside_buffer part a pages k bs qtd_links.End at leads = tt
leads_beside_buffer part a pages k bs (qtd_links.To b) at leads = record {
  qtd = leads.qtd;
  here = gone_there part a b (λ same. element_not_buffer part b a leads.qtd pages k bs leads.here at (sym same)) ∙ leads.here;
}

pub reached_by : (m : Mem) (pages : List ℕ) (k n i : ℕ) (b : Bool) → i < n → all_reached m pages k n ≡ true
    → reaches m (place pages (k + i)) ≡ b → reaches m (place pages (k + i)) ≡ true
reached_by m pages k n i true below all is = is
reached_by m pages k n i false below all is = absurd (false≢true (sym (all_reached_no m pages k n i below is) ∙ all))

pub by_none : (o : Outcome) → is_moved o ≡ false → moved_by o ≡ 0
by_none (Moved n) off = absurd (false≢true (sym off))
by_none _ off = refl

pub received_alters : (parts : StructureSets) (n : ℕ) (x : Qh) (got : List ℕ) (r : Received) → IsReceived (parts n) x got r
    → Alters (parts n) (received_parts parts n got r n)
received_alters parts n x got Nothing is = unaltered (parts n)
received_alters parts n x got (Into pages k bs j) is =
    subst (Alters (parts n)) (sym (put_here parts n (place pages k) (Buffer pages k (overwritten bs j got))))
    (buffer_put (parts n) (place pages k) pages k bs (overwritten bs j got) is.buffer (length-overwritten bs j got is.fits))

pub got_few : (pid : Pid) (o : Outcome) (got : List ℕ) → Brings pid o got → length got ≤ moved_by o
got_few Packets.In o got brings = let e = brings.all refl in omega (arith, e)
got_few pid o got brings = let e = ap length (brings.none (λ is. cc)) in omega (arith, e)

pub pointer_within : (order : ℕ → ℕ) (c : ℕ) (part : Structures) (a : ℕ) (t : Qtd) (short : Bool) (b : ℕ) → LinksWithin order c part
    → part a ≡ Some (Element t) → t.token.active ≡ true → order a ≤ order c
    → qtd_link_of (if short then t.alternate else t.next) ≡ qtd_links.To b → order b ≤ order c
pointer_within order c part a t true b within here on reached to = within.alternate a b t here on reached to
pointer_within order c part a t false b within here on reached to = within.next a b t here on reached to

pub behind_later : (order : ℕ → ℕ) (front later : ℕ) (part now : Structures) (a : ℕ) → front ≤ later
    → ((t : Qtd) → part a ≡ Some (Element t) → t.token.active ≡ false → now a ≡ Some (Element t)) → IsBehind order front part a
    → IsBehind order later now a
behind_later order front later part now a grows still k = record {
  qtd = k.qtd;
  here = still k.qtd k.here k.done;
  done = k.done;
  before = (let less = k.before in omega (arith, less, grows));
  leads = λ b off to. let at = k.leads b off to in omega (arith, at, grows);
}

pub passed_later : (order : ℕ → ℕ) (front later : ℕ) (part now : Structures) (a : ℕ) → front ≤ later
    → ((t : Qtd) → part a ≡ Some (Element t) → now a ≡ Some (Element t)) → IsPassed order front part a → IsPassed order later now a
passed_later order front later part now a grows still k =
    record { qtd = k.qtd; here = still k.qtd k.here; published = k.published; before = (let less = k.before in omega (arith, less, grows)) }

pub fewer_some : (goes : ℕ → Bool) (part : Structures) (a : ℕ) (u : Structure) → fewer_structures goes part a ≡ Some u
    → (goes a ≡ false) × (part a ≡ Some u)
fewer_some goes part a u here = by (goes a) refl
  where
    by : (b : Bool) → goes a ≡ b → (goes a ≡ false) × (part a ≡ Some u)
    by false is = (is, sym (ap (λ (c : Bool). if c then None else part a) is) ∙ here)
    by true is = absurd (let bad : ◌≡◌ {A = Option Structure} None (Some u) =
        sym (ap (λ (c : Bool). if c then None else part a) is) ∙ here in cc)

pub those_here : (parts : StructureSets) (n : ℕ) (goes : ℕ → Bool) → without_those parts n goes n ≡ fewer_structures goes (parts n)
those_here parts n goes = ap (λ (b : Bool). if b then fewer_structures goes (parts n) else parts n) (eq-eqb n n refl)

pub plain_split : (eps : ℕ) (waiting : Bool) (pipe : Pipe) → eps ≡ 2 → split_at (eps == 2) waiting pipe ≡ Splits.Plain
plain_split eps waiting pipe high = ap (λ (b : Bool). split_at b waiting pipe) (eq-eqb eps 2 high)

pub wider_link : (member wider : ℕ → Bool) (l : LinkBits) → IsWider member wider → LeadsAmong member l → LeadsAmong wider l
wider_link member wider l more k = record { to = k.to; leads = k.leads; on = more k.to k.on }

pub endpoint_kept : (parts now : StructureSets) (n : ℕ) (x : Endpoint) → now n ≡ parts n → HasEndpoint parts n x → HasEndpoint now n x
endpoint_kept parts now n x same has = record { queue = has.queue; head = ap (λ (part : Structures). part n) same ∙ has.head; is = has.is }

pub own_fewer : (goes : ℕ → Bool) (part : Structures) → AreOwn part → AreOwn (fewer_structures goes part)
own_fewer goes part own a b t u pages k bs one other same there =
    own a b t u pages k bs (fewer_some goes part a (Element t) one).1 (fewer_some goes part b (Element u) other).1 same
    (fewer_some goes part (buffer_name t) (Buffer pages k bs) there).1
