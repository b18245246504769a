-- Each line leaves a script of bytes.
use Rattle.std.proofs.Common.{ℕ, zero, suc, ◌+◌, ◌%◌, ◌<◌, List, [], ◌∷◌, length, map, drop, Option, Some, None, arith}
use Rattle.std.specs.Prelude.{◌==◌, ◌&&◌, nat_le, is_some, unwrap_or}
use Rattle.std.specs.List.{AllByRecursion, range_with_len}
use Rattle.std.specs.Option.{option_map_or}
use Rattle.std.specs.Simd.{first_chunks}
use Rattle.std.proofs.lemmas.Bool.{cond_both}
use Rattle.law_scripts.proofs.Common.{all_change}
use Rattle.law_common.proofs.Lists.{all_both, all_map}
use Rattle.usb_base.specs.declared.packets.Way.TheVariants as way
use Rattle.usb_base.specs.declared.endpoints.EpDesc.{EpDesc}
use Rattle.usb_base.specs.declared.commands.Cmd.{Cmd}
use Rattle.usb_base.specs.declared.commands.Cmd.TheVariants as cmd
use Rattle.script_types.specs.declared.devices.EpText.{EpText}
use Rattle.script_types.specs.declared.devices.Item.TheVariants as items
use Rattle.script_forms.specs.declared.statements.Name.{Name}
use Rattle.script_forms.specs.declared.statements.Answer.{Answer}
use Rattle.script_forms.specs.declared.statements.Answer.TheVariants as answer
use Rattle.script_forms.specs.declared.statements.Content.{Content}
use Rattle.script_forms.specs.declared.statements.Content.TheVariants as content
use Rattle.script_forms.specs.declared.statements.Statement.{Statement}
use Rattle.script_forms.specs.declared.statements.Statement.TheVariants as says
use Rattle.law_scripts.specs.script_spelling.Spelling.{AreBytes}
use Rattle.script_world.specs.Draft.{Draft, Placed, device_of, known, same_way, is_named, change, filled, packet_count}
use Rattle.script_world.specs.Ranges.{within, is_endpoint, is_slots}
use Rattle.script_world.specs.Rows.{is_known, items_of, answered, counted, roomier, stuffed, at_ep, name_of, with_ep, content_bytes}
use Rattle.script_world.specs.Rows.{content_len, bytes_len, commanded, where_known, put_room, control_name, after}
use Rattle.law_scripts.specs.byte_answers.Bytes.{IsByteItem, IsByteText, IsByteCommand, IsByteLine}
use Rattle.law_scripts.proofs.lemmas.byte_answers.Lists.{Holds, all_take, all_drop}
use Rattle.law_scripts.proofs.lemmas.script_bytes.Statements.{IsByteAnswered, IsByteContent, IsByteStatement}

abbrev pub IsBytePlaced : Placed → Type 0
IsBytePlaced d = AllByRecursion IsByteText d.eps

pub record IsByteDraft (w : Draft) : Type 0 where
  pub devices : AllByRecursion IsBytePlaced w.devices
  pub lines : AllByRecursion (λ x. IsByteLine x.1) w.lines

always : {X : Type 0} (xs : List X) → AllByRecursion (λ _. Unit {0}) xs
always [] = tt
always (x ∷ xs) = (tt, always xs)

-- ---- answers

filled_bytes : (n seed : ℕ) → AreBytes (filled n seed)
filled_bytes n seed = all_map (λ _. Unit {0}) (λ b. b < 256) (λ i. (seed + i) % 256) (range_with_len 0 n) (λ i _. omega arith) (always (range_with_len 0 n))

chunk_bytes : (max k : ℕ) (xs : List ℕ) → AreBytes xs → AllByRecursion IsByteItem (map items.Bytes (first_chunks max k xs))
chunk_bytes max zero xs h = tt
chunk_bytes max (suc k) xs h = (all_take _ max xs h, chunk_bytes max k (drop max xs) (all_drop _ max xs h))

items_bytes : (max : ℕ) (a : Answer) → IsByteAnswered a → AllByRecursion IsByteItem (items_of max a)
items_bytes max (answer.Data bytes) h = (h, tt)
items_bytes max (answer.Fill n seed) h = chunk_bytes max (packet_count max (length (filled n seed))) (filled n seed) (filled_bytes n seed)
items_bytes max (answer.Request setup bytes) h = (h, tt)
items_bytes max _ h = (tt, tt)

answered_bytes : (a : Answer) (e : EpText) → IsByteAnswered a → IsByteText e → IsByteText (answered a e)
answered_bytes a e k h = all_both IsByteItem e.items (items_of e.desc.max a) h (items_bytes e.desc.max a k)

at_ep_bytes : (name : Name) (f : EpText → EpText) (ds : List Placed) → ((e : EpText) → IsByteText e → IsByteText (f e)) → AllByRecursion IsBytePlaced ds → AllByRecursion IsBytePlaced (at_ep name f ds)
at_ep_bytes name f ds g h =
    all_change IsBytePlaced (λ d. d.addr == name.addr) (λ d. record d { eps = change (is_named name) f d.eps }) ds (λ d k. all_change IsByteText (is_named name) f d.eps g k) h

put_room_bytes : (name : Name) (n : ℕ) (ds : List Placed) → AllByRecursion IsBytePlaced ds → AllByRecursion IsBytePlaced (put_room name n ds)
put_room_bytes name n ds h =
    cond_both (same_way name.way way.Out) (at_ep name (roomier n) ds) ds (AllByRecursion IsBytePlaced) (λ _. at_ep_bytes name (roomier n) ds (λ e k. k) h) (λ _. h)

-- ---- commands

commanded_bytes : (w : Draft) (n : ℕ) (c : Cmd) → IsByteCommand c → IsByteDraft w → IsByteDraft (commanded w n c)
commanded_bytes w n c k h = record { devices = h.devices; lines = all_both (λ x. IsByteLine x.1) w.lines _ h.lines (k, tt) }

where_bytes : (w : Draft) (name : Name) (v : Draft) → IsByteDraft w → IsByteDraft v → IsByteDraft (where_known w name v)
where_bytes w name v h k = cond_both (is_some (known w name)) v w IsByteDraft (λ _. k) (λ _. h)

opened_bytes : (w : Draft) (n : ℕ) (x : Option EpDesc) → IsByteDraft w → IsByteDraft (option_map_or (λ d. commanded w n (cmd.OpenEp d)) x w)
opened_bytes w n None h = h
opened_bytes w n (Some d) h = commanded_bytes w n (cmd.OpenEp d) tt h

content_are_bytes : (c : Content) → IsByteContent c → AreBytes (content_bytes c)
content_are_bytes (content.Given bytes) h = h
content_are_bytes (content.Fill n seed) h = filled_bytes n seed

given_bytes : (o : Option (List ℕ)) → Holds AreBytes o → AreBytes (unwrap_or o [])
given_bytes None h = tt
given_bytes (Some bytes) h = h

-- ---- any line

pub after_bytes : (w : Draft) (n : ℕ) (s : Statement) → IsByteStatement s → IsByteDraft w → IsByteDraft (after w n s)
after_bytes w n (says.Hub addr ports multi) said h =
    cond_both (within 1 127 addr && within 1 15 ports) _ w IsByteDraft (λ _. record { devices = h.devices; lines = h.lines }) (λ _. h)
after_bytes w n (says.DevHigh addr) said h =
    cond_both (within 1 127 addr) _ w IsByteDraft (λ _. record { devices = all_both IsBytePlaced w.devices _ h.devices (tt, tt); lines = h.lines }) (λ _. h)
after_bytes w n (says.DevBelow b) said h =
    cond_both (within 1 127 b.addr && nat_le b.hub 127 && is_known w (says.DevBelow b)) _ w IsByteDraft
    (λ _. record { devices = all_both IsBytePlaced w.devices _ h.devices (tt, tt); lines = h.lines }) (λ _. h)
after_bytes w n (says.Ep l) said h =
    cond_both (is_endpoint l && is_some (device_of w.devices l.name.addr)) _ w IsByteDraft
    (λ _. record { devices = all_change IsBytePlaced (λ d. d.addr == l.name.addr) (with_ep l) w.devices (λ d k. all_both IsByteText d.eps _ k (tt, tt)) h.devices; lines = h.lines }) (λ _. h)
after_bytes w n (says.Reply name a) said h =
    record { devices = at_ep_bytes name (answered a) w.devices (λ e k. answered_bytes a e said k) h.devices; lines = h.lines }
after_bytes w n (says.Fate f) said h = where_bytes w f.name _ h (record { devices = h.devices; lines = h.lines })
after_bytes w n (says.Stuff name p) said h =
    cond_both (nat_le p 6) _ w IsByteDraft
    (λ _. where_bytes w name _ h (record { devices = at_ep_bytes name (stuffed p) w.devices (λ e k. k) h.devices; lines = h.lines }))
    (λ _. h)
after_bytes w n (says.Open name) said h = opened_bytes w n (known w name) h
after_bytes w n (says.Cancel name) said h = where_bytes w name _ h (commanded_bytes w n (cmd.Cancel (name_of name)) tt h)
after_bytes w n (says.Clear name) said h = where_bytes w name _ h (commanded_bytes w n (cmd.Clear (name_of name)) tt h)
after_bytes w n (says.Get l) said h =
    where_bytes w l.name _ h (commanded_bytes (record w { asked = counted w.asked l.len }) n _ tt (record { devices = h.devices; lines = h.lines }))
after_bytes w n (says.Put l) said h =
    where_bytes w l.name _ h
    (commanded_bytes (record w { scripted = counted w.scripted (content_len l.content); devices = put_room l.name (content_len l.content) w.devices }) n _ (content_are_bytes l.content said)
    (record { devices = put_room_bytes l.name _ w.devices h.devices; lines = h.lines }))
after_bytes w n (says.Control c) said h =
    where_bytes w (control_name c.addr) _ h
    (commanded_bytes (record w { scripted = counted w.scripted (bytes_len c.bytes) }) n _ (said.0, given_bytes c.bytes said.1) (record { devices = h.devices; lines = h.lines }))
after_bytes w n (says.Iso l) said h =
    cond_both (is_slots l) _ w IsByteDraft (λ _. where_bytes w l.name _ h (commanded_bytes w n (cmd.Iso (name_of l.name) l.count l.len l.seed) tt h)) (λ _. h)
after_bytes w n (says.Order event k) said h = record { devices = h.devices; lines = all_both (λ x. IsByteLine x.1) w.lines _ h.lines (tt, tt) }
after_bytes w n (says.Micro k) said h = record { devices = h.devices; lines = all_both (λ x. IsByteLine x.1) w.lines _ h.lines (tt, tt) }
after_bytes w n _ said h = record { devices = h.devices; lines = h.lines }
