-- No line of a script that a text spells asks for more bytes in a slot of an isochronous endpoint than its packets can have: an endpoint is
-- declared once, and before what is asked of it (USB 2.0, 5.6.3 and 5.9.2).
use Rattle.std.proofs.Common.{◌≡◌, ℕ, ◌+◌, ◌*◌, ◌≤◌, Bool, true, false, List, [], ◌∷◌, ◌++◌, Option, Some, None, refl, sym, ap, subst, ◌∙◌, inl, inr, ◌⊎◌, if◌then◌else◌}
use Rattle.std.specs.Prelude.{◌==◌, ◌&&◌, nat_le, is_some}
use Rattle.std.specs.List.{AllByRecursion, find}
use Rattle.std.specs.Option.{option_map, option_map_or, option_and_then, option_or}
use Rattle.std.proofs.lemmas.Bool.{cond_both, and_parts, eqb-true, leb-true, false≢true}
use Rattle.std.proofs.lemmas.Option.{same_Some}
use Rattle.law_devices.proofs.Common.{ways_equal}
use Rattle.law_common.proofs.Lists.{all_both, all_more}
use Rattle.usb_base.specs.declared.commands.Cmd.{Cmd}
use Rattle.usb_base.specs.declared.commands.Cmd.TheVariants as cmd
use Rattle.usb_base.specs.declared.endpoints.EpDesc.{EpDesc}
use Rattle.usb_base.specs.declared.endpoints.EpName.{EpName}
use Rattle.usb_base.specs.declared.packets.EpKind.{EpKind}
use Rattle.usb_base.specs.declared.packets.EpKind.TheVariants as kinds
use Rattle.usb_base.specs.declared.packets.Way.{Way}
use Rattle.usb_base.specs.declared.packets.Way.TheVariants as way
use Rattle.script_types.specs.declared.devices.EpText.{EpText}
use Rattle.script_types.specs.declared.scripts.Line.{Line}
use Rattle.script_types.specs.declared.scripts.Line.TheVariants as line
use Rattle.script_types.specs.declared.scripts.Script.{Script}
use Rattle.script_forms.specs.declared.statements.EpLine.{EpLine}
use Rattle.script_forms.specs.declared.statements.IsoLine.{IsoLine}
use Rattle.script_forms.specs.declared.statements.Name.{Name}
use Rattle.script_forms.specs.declared.statements.Statement.{Statement}
use Rattle.script_forms.specs.declared.statements.Statement.TheVariants as says
use Rattle.script_world.specs.Draft.{Draft, Placed, empty, script_of, device_of, device_ep, ep_of, hub_ep, hub_of, hub_desc, is_name, known, same_way, is_named, change}
use Rattle.script_world.specs.Ranges.{in_range, is_slots, is_endpoint, within}
use Rattle.script_world.specs.Rows.{cause_of, is_known, answered, roomier, stuffed, at_ep, name_of, desc_of, with_ep, commanded, where_known, put_room, control_name, after}
use Rattle.script_text.specs.Faults.{Spells}
use Rattle.drv_table.specs.DriverContent.{is_same_way, is_same_name}
use Rattle.drv_table.specs.Kinds.{is_iso}
use Rattle.law_devices.specs.declared_controls.Names.{IsNameOf, NamesLine}
use Rattle.law_devices.proofs.Lists.{Holds, all_find, found_passes, then_append, then_change, map_append, map_find_change}
use Rattle.law_devices.proofs.Drafts.{HasOwn, ep_in, IsNamedIn, IsKnownDesc, IsKnownLine, KeepsEps, IsDeclaredDraft}
use Rattle.law_devices.proofs.Senders.{empty_declared, second_declared, line_declares}
use Rattle.law_devices.proofs.Texts.{IsScriptOf, spelled_kept}
use Rattle.law_devices.proofs.lemmas.declared_controls.Controls.{texts_name_endpoints}
use Rattle.law_devices.proofs.lemmas.declared_controls.Texts.{is_ranged}
use Rattle.law_microframes.specs.time.SitdFields.{FitsSlotsOf, FitsSlots, OpensFitSlots, SlotsFit, TextsFitSlots}

-- ---- what is asked of an endpoint that is declared

pub record IsSlotIn (ds : List Placed) (name : EpName) (len : ℕ) : Type 0 where
  pub said : Name
  pub desc : EpDesc
  pub here : ep_in ds said ≡ Some desc
  pub named : name_of said ≡ name
  pub fits : len ≤ desc.max * desc.multi

abbrev SlotLine : List Placed → Line → Type 0
SlotLine ds (line.Command (cmd.Iso name count len seed)) = (name.way ≡ way.Ctl) ⊎ IsSlotIn ds name len
SlotLine ds _ = Unit {0}

abbrev AreSlots : List Placed → List (ℕ × Line) → Type 0
AreSlots ds ls = AllByRecursion (λ l. SlotLine ds l.1) ls

record IsSlotDraft (w : Draft) : Type 0 where
  declared : IsDeclaredDraft w
  slots : AreSlots w.devices w.lines

slot_keeps : (ds es : List Placed) (l : Line) → KeepsEps ds es → SlotLine ds l → SlotLine es l
slot_keeps ds es (line.Command (cmd.Iso name count len seed)) g (inl ctl) = inl ctl
slot_keeps ds es (line.Command (cmd.Iso name count len seed)) g (inr k) =
    inr (record { said = k.said; desc = k.desc; here = g k.said k.desc k.here; named = k.named; fits = k.fits })
slot_keeps ds es _ g h = tt

-- ---- the endpoints stay declared

same_eps : (ds : List Placed) → KeepsEps ds ds
same_eps ds name x e = e

eps_appended : (ds es : List Placed) → KeepsEps ds (ds ++ es)
eps_appended ds es name x e = then_append (λ (d : Placed). d.addr == name.addr) (λ d. ep_of d.eps name) x ds es e

eps_changed : (to : Name) (f : EpText → EpText) (ds : List Placed) → ((e : EpText) → (f e).desc ≡ e.desc) → KeepsEps ds (at_ep to f ds)
eps_changed to f ds same name x e =
    then_change (λ (d : Placed). d.addr == name.addr) (λ d. ep_of d.eps name) x (λ d. d.addr == to.addr)
    (λ d. record d { eps = change (is_named to) f d.eps }) ds (λ d. refl)
    (λ d k.
    map_find_change (is_named name) (λ (e : EpText). e.desc) (is_named to) f d.eps
    (λ e. ap (λ (v : EpDesc). v.name.num == name.num && same_way v.name.way name.way) (same e)) same ∙ k) e

eps_added : (l : EpLine) (ds : List Placed) → KeepsEps ds (change (λ d. d.addr == l.name.addr) (with_ep l) ds)
eps_added l ds name x e =
    then_change (λ (d : Placed). d.addr == name.addr) (λ d. ep_of d.eps name) x (λ d. d.addr == l.name.addr) (with_ep l) ds (λ d. refl)
    (λ d k. map_append (is_named name) (λ (e : EpText). e.desc) x d.eps
    (record { desc = desc_of l d; items = []; room = 0; stuff = 0; clears = 0 } ∷ []) k) e

-- ---- each line

-- what stays, and is said more, where a line is read
record Goes (w v : Draft) : Type 0 where
  eps : KeepsEps w.devices v.devices
  slots : AreSlots w.devices w.lines → AreSlots w.devices v.lines

same_goes : (w v : Draft) → v.devices ≡ w.devices → v.lines ≡ w.lines → Goes w v
same_goes w v devices lines = record {
  eps = subst (KeepsEps w.devices) (sym devices) (same_eps w.devices);
  slots = λ h. subst (AreSlots w.devices) (sym lines) h;
}

eps_go : (w v : Draft) → KeepsEps w.devices v.devices → v.lines ≡ w.lines → Goes w v
eps_go w v eps lines = record { eps = eps; slots = λ h. subst (AreSlots w.devices) (sym lines) h }

more_lines : (w v : Draft) (n : ℕ) (l : Line) → KeepsEps w.devices v.devices → v.lines ≡ w.lines ++ (n, l) ∷ [] → SlotLine w.devices l
    → Goes w v
more_lines w v n l eps lines h = record {
  eps = eps;
  slots = λ all. subst (AreSlots w.devices) (sym lines) (all_both (λ x. SlotLine w.devices x.1) w.lines ((n, l) ∷ []) all (h, tt));
}

where_goes : (w : Draft) (name : Name) (v : Draft) → (is_some (known w name) ≡ true → Goes w v) → Goes w (where_known w name v)
where_goes w name v h = cond_both (is_some (known w name)) v w (Goes w) h (λ _. same_goes w w refl refl)

opened_goes : (w : Draft) (n : ℕ) (o : Option EpDesc) → Goes w (option_map_or (λ d. commanded w n (cmd.OpenEp d)) o w)
opened_goes w n None = same_goes w w refl refl
opened_goes w n (Some x) = more_lines w _ n (line.Command (cmd.OpenEp x)) (same_eps w.devices) refl tt

put_keeps : (name : Name) (n : ℕ) (ds : List Placed) → KeepsEps ds (put_room name n ds)
put_keeps name n ds =
    cond_both (same_way name.way way.Out) (at_ep name (roomier n) ds) ds (KeepsEps ds) (λ _. eps_changed name (roomier n) ds (λ e. refl))
    (λ _. same_eps ds)

-- what a line asks of a slot
module _ (w : Draft) (l : IsoLine) (ranged : option_map_or (λ d. nat_le l.len (d.max * d.multi)) (known w l.name) true ≡ true)
    (is : is_some (known w l.name) ≡ true) where
  abbrev Slot : Type 0
  Slot = ((name_of l.name).way ≡ way.Ctl) ⊎ IsSlotIn w.devices (name_of l.name) l.len

  hub_known : (b : Bool) → (l.name.num == 0 && same_way l.name.way way.Ctl) ≡ b
      → is_some (if b then option_map (λ h. hub_desc h.addr) (hub_of w.hubs l.name.addr) else None) ≡ true → l.name.way ≡ way.Ctl
  hub_known true e some = ways_equal l.name.way way.Ctl (and_parts (l.name.num == 0) (same_way l.name.way way.Ctl) e).1
  hub_known false e some = cc

  by_device : (o : Option EpDesc) → device_ep w l.name ≡ o
      → option_map_or (λ d. nat_le l.len (d.max * d.multi)) (option_or o (hub_ep w l.name)) true ≡ true
      → is_some (option_or o (hub_ep w l.name)) ≡ true → Slot
  by_device None e fits some = inl (hub_known (l.name.num == 0 && same_way l.name.way way.Ctl) refl some)
  by_device (Some x) e fits some = inr (record {
    said = l.name;
    desc = x;
    here = e;
    named = refl;
    fits =
        leb-true l.len (x.max * x.multi) fits;
  })

  by_name : (b : Bool) → option_map_or (λ d. nat_le l.len (d.max * d.multi))
      (if b then option_or (device_ep w l.name) (hub_ep w l.name) else None) true ≡ true
      → is_some (if b then option_or (device_ep w l.name) (hub_ep w l.name) else None) ≡ true → Slot
  by_name true fits some = by_device (device_ep w l.name) refl fits some
  by_name false fits some = cc

  slot_asked : ((name_of l.name).way ≡ way.Ctl) ⊎ IsSlotIn w.devices (name_of l.name) l.len
  slot_asked = by_name (is_name l.name) ranged is

goes : (w : Draft) (n : ℕ) (s : Statement) → in_range w s ≡ true → Goes w (after w n s)
goes w n (says.Mem words) t = same_goes w _ refl refl
goes w n (says.Hub addr ports multi) t = cond_both (within 1 127 addr && within 1 15 ports) _ w (Goes w) (λ _. same_goes w _ refl refl)
    (λ _. same_goes w w refl refl)
goes w n (says.DevHigh addr) t = cond_both (within 1 127 addr) _ w (Goes w) (λ _. eps_go w _ (eps_appended w.devices _) refl)
    (λ _. same_goes w w refl refl)
goes w n (says.DevBelow b) t =
    cond_both (within 1 127 b.addr && nat_le b.hub 127 && is_known w (says.DevBelow b)) _ w (Goes w)
    (λ _. eps_go w _ (eps_appended w.devices _) refl) (λ _. same_goes w w refl refl)
goes w n (says.Ep l) t =
    cond_both (is_endpoint l && is_some (device_of w.devices l.name.addr)) _ w (Goes w) (λ _. eps_go w _ (eps_added l w.devices) refl)
    (λ _. same_goes w w refl refl)
goes w n (says.Reply name a) t = eps_go w _ (eps_changed name (answered a) w.devices (λ e. refl)) refl
goes w n (says.Fate f) t = where_goes w f.name _ (λ _. same_goes w _ refl refl)
goes w n (says.Stuff name p) t =
    cond_both (nat_le p 6) _ w (Goes w) (λ _. where_goes w name _ (λ _. eps_go w _ (eps_changed name (stuffed p) w.devices (λ e. refl)) refl))
    (λ _. same_goes w w refl refl)
goes w n (says.Hold first last) t = same_goes w _ refl refl
goes w n (says.Open name) t = opened_goes w n (known w name)
goes w n (says.Cancel name) t = where_goes w name _
    (λ _. more_lines w _ n (line.Command (cmd.Cancel (name_of name))) (same_eps w.devices) refl tt)
goes w n (says.Clear name) t = where_goes w name _
    (λ _. more_lines w _ n (line.Command (cmd.Clear (name_of name))) (same_eps w.devices) refl tt)
goes w n (says.Get l) t = where_goes w l.name _ (λ _. more_lines w _ n _ (same_eps w.devices) refl tt)
goes w n (says.Put l) t = where_goes w l.name _ (λ _. more_lines w _ n _ (put_keeps l.name _ w.devices) refl tt)
goes w n (says.Control c) t = where_goes w (control_name c.addr) _ (λ _. more_lines w _ n _ (same_eps w.devices) refl tt)
goes w n (says.Iso l) t =
    let both = and_parts (is_slots l) (option_map_or (λ d. nat_le l.len (d.max * d.multi)) (known w l.name) true) t in
    cond_both (is_slots l) _ w (Goes w)
    (λ _. where_goes w l.name _ (λ is. more_lines w _ n (line.Command (cmd.Iso (name_of l.name) l.count l.len l.seed))
    (same_eps w.devices) refl (slot_asked w l both.1 is)))
    (λ _. same_goes w w refl refl)
goes w n (says.Order event k) t = more_lines w _ n (line.Order event k) (same_eps w.devices) refl tt
goes w n (says.Micro k) t = more_lines w _ n (line.Micro k) (same_eps w.devices) refl tt
goes w n says.Unbuilt t = same_goes w w refl refl

line_slots : (w : Draft) (n : ℕ) (s : Statement) → cause_of w s ≡ None → IsSlotDraft w → IsSlotDraft (after w n s)
line_slots w n s taken h =
    let g = goes w n s (is_ranged w s taken) in
    record {
      declared = line_declares w n s taken h.declared;
      slots = all_more (λ l. SlotLine w.devices l.1) (λ l. SlotLine (after w n s).devices l.1) (after w n s).lines
          (λ l k. slot_keeps w.devices (after w n s).devices l.1 g.eps k) (g.slots h.slots);
    }

-- ---- the endpoint of a name is one

record IsSaid (said : Name) (x : EpDesc) : Type 0 where
  addr : x.name.addr ≡ said.addr
  num : x.name.num ≡ said.num
  way : x.name.way ≡ said.way

text_said : (names : List EpName) (said : Name) (x : EpDesc) (d : Placed) (o : Option EpText) → HasOwn names d
    → (d.addr == said.addr) ≡ true → find (is_named said) d.eps ≡ o
    → option_map (λ (e : EpText). e.desc) o ≡ Some x → IsSaid said x
text_said names said x d None own at is e = cc
text_said names said x d (Some t) own at is e =
    let k = subst (Holds _) is (all_find _ (is_named said) d.eps own) in
    let passes = and_parts (t.desc.name.num == said.num) (same_way t.desc.name.way said.way) (found_passes (is_named said) d.eps t is) in
    subst (IsSaid said) (same_Some t.desc x e)
    (record {
      addr = k.address ∙ eqb-true d.addr said.addr at;
      num = eqb-true t.desc.name.num said.num passes.0;
      way =
          ways_equal t.desc.name.way said.way passes.1;
    })

device_said : (names : List EpName) (ds : List Placed) (said : Name) (x : EpDesc) (o : Option Placed) → AllByRecursion (HasOwn names) ds
    → device_of ds said.addr ≡ o
    → option_and_then (λ d. ep_of d.eps said) o ≡ Some x → IsSaid said x
device_said names ds said x None all is e = cc
device_said names ds said x (Some d) all is e =
    let own = subst (Holds (HasOwn names)) is (all_find (HasOwn names) (λ d. d.addr == said.addr) ds all) in
    text_said names said x d (find (is_named said) d.eps) own (found_passes (λ (d : Placed). d.addr == said.addr) ds d is) refl e

same_said : (ds : List Placed) (a b : Name) → a.addr ≡ b.addr → a.num ≡ b.num → a.way ≡ b.way → ep_in ds a ≡ ep_in ds b
same_said ds a b addr num w =
    ap (λ (i : ℕ). ep_in ds (record { addr = i; num = a.num; way = a.way })) addr
    ∙ ap (λ (i : ℕ). ep_in ds (record { addr = b.addr; num = i; way = a.way })) num
    ∙ ap (λ (v : Way). ep_in ds (record { addr = b.addr; num = b.num; way = v })) w

same_ways : (a b : Way) → is_same_way a b ≡ true → a ≡ b
same_ways way.In way.In e = refl
same_ways way.Out way.Out e = refl
same_ways way.Ctl way.Ctl e = refl
same_ways _ _ e = cc

-- ---- all lines

no_way : (x : EpDesc) (k : EpKind) → x.kind ≡ k → IsNameOf k x.name → is_iso k ≡ true → x.name.way ≡ way.Ctl → ⊥
no_way x kinds.Iso is h iso ctl = h.way ctl
no_way x _ is h iso ctl = false≢true iso

module _ (w : Draft) (h : IsSlotDraft w) (x : EpDesc) (name : IsNameOf x.kind x.name) where
  declared_fits : (said : EpName) (len : ℕ) → is_iso x.kind ≡ true → is_same_name x.name said ≡ true → IsNamedIn w.devices x
      → IsSlotIn w.devices said len → len ≤ x.max * x.multi
  declared_fits said len iso same k s =
      let a = device_said w.endpoints w.devices k.name x (device_of w.devices k.name.addr) h.declared.own refl k.here in
      let first = and_parts (x.name.addr == said.addr && x.name.num == said.num) (is_same_way x.name.way said.way) same in
      let second = and_parts (x.name.addr == said.addr) (x.name.num == said.num) first.0 in
      let addr : k.name.addr ≡ s.said.addr = sym a.addr ∙ eqb-true x.name.addr said.addr second.0
      ∙ ap (λ (n : EpName). n.addr) (sym s.named) in
      let num : k.name.num ≡ s.said.num = sym a.num ∙ eqb-true x.name.num said.num second.1 ∙ ap (λ (n : EpName). n.num) (sym s.named) in
      let ways : k.name.way ≡ s.said.way = sym a.way ∙ same_ways x.name.way said.way first.1 ∙ ap (λ (n : EpName). n.way) (sym s.named) in
      let is : s.desc ≡ x = same_Some s.desc x (sym s.here ∙ sym (same_said w.devices k.name s.said addr num ways) ∙ k.here) in
      subst (λ (d : EpDesc). len ≤ d.max * d.multi) is s.fits

  one_fits : (l : Line) → IsKnownDesc w.devices x → SlotLine w.devices l → FitsSlotsOf x l
  one_fits (line.Command (cmd.Iso said count len seed)) (inl ctl) s = λ iso same. absurd (no_way x x.kind refl name iso ctl)
  one_fits (line.Command (cmd.Iso said count len seed)) (inr k) (inl ctl) = λ iso same.
      let first = and_parts (x.name.addr == said.addr && x.name.num == said.num) (is_same_way x.name.way said.way) same in
      absurd (no_way x x.kind refl name iso (same_ways x.name.way said.way first.1 ∙ ctl))
  one_fits (line.Command (cmd.Iso said count len seed)) (inr k) (inr s) = λ iso same. declared_fits said len iso same k s
  one_fits _ k s = tt

line_fits : (w : Draft) (l : Line) → IsSlotDraft w → NamesLine l → IsKnownLine w.devices l → OpensFitSlots (script_of w) l
line_fits w (line.Command (cmd.OpenEp x)) h name k =
    all_more (λ l. SlotLine w.devices l.1) (λ l. FitsSlotsOf x l.1) w.lines (λ l s. one_fits w h x name.name l.1 k s) h.slots
line_fits w _ h named k = tt

lines_fit : (w : Draft) (ls : List (ℕ × Line)) → IsSlotDraft w → AllByRecursion (λ l. NamesLine l.1) ls
    → AllByRecursion (λ l. IsKnownLine w.devices l.1) ls
    → AllByRecursion (λ l. OpensFitSlots (script_of w) l.1) ls
lines_fit w [] h names opened = tt
lines_fit w (l ∷ ls) h names opened = (line_fits w l.1 h names.0 opened.0, lines_fit w ls h names.1 opened.1)

pub texts_fit_slots : TextsFitSlots
texts_fit_slots text s spelled =
    let k : IsScriptOf IsSlotDraft s =
    spelled_kept IsSlotDraft (record { declared = empty_declared; slots = tt })
    (λ w h. record { declared = second_declared w h.declared; slots = h.slots }) line_slots text s spelled in
    let names = subst (λ (v : Script). AllByRecursion (λ l. NamesLine l.1) v.lines) (sym k.is) (texts_name_endpoints text s spelled).opened
    in
    subst SlotsFit k.is (lines_fit k.draft k.draft.lines k.holds names k.holds.declared.opened)
