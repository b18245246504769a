-- The translators of a hub: split transactions above, work below (USB 2.0, 11.14 to 11.21).
use Rattle.std.specs.Prelude.{◌≡◌, ℕ, List}
use Rattle.std.specs.Option.{option_map_or}
use Rattle.usb_base.specs.declared.packets.Ask.{Ask}
use Rattle.usb_base.specs.declared.packets.Reply.{Reply}
use Rattle.usb_base.specs.declared.packets.Reply.TheVariants.{Silent}
use Rattle.usb_base.specs.declared.packets.Split.{Split}
use Rattle.usb_base.specs.declared.packets.Split.TheVariants.{Plain, Start, Complete}
use Rattle.multi_tt.specs.Translators.{translator_at, changed_at}
use Rattle.multi_tt.specs.Single.{start_answer, started, complete_answer, completed, AllWork}
use Rattle.multi_tt.specs.Calls.{port_of}
use Rattle.hub_class.specs.HubContent.{HubContent}

-- A split goes to the translator of its port; where the hub doesn't have the port it is answered by silence, and changes nothing.
abbrev pub split_reply : Split → Ask → HubContent → Reply
split_reply Plain ask h = Silent
split_reply (Start _ _ _) ask h = option_map_or (start_answer ask) (translator_at (port_of ask.split) h.translators) Silent
split_reply (Complete _ _) ask h = option_map_or (complete_answer ask) (translator_at (port_of ask.split) h.translators) Silent

abbrev pub after_split : Split → Ask → List ℕ → ℕ → HubContent → HubContent
after_split Plain ask out stuff h = h
after_split (Start _ _ _) ask out stuff h = record h { translators = changed_at (port_of ask.split) (started ask out stuff) h.translators }
after_split (Complete _ _) ask out stuff h = record h { translators = changed_at (port_of ask.split) (completed ask) h.translators }

-- the answer to a split ask that sends these bytes, which stuffed bits make longer by a number in 36 (7.1.9), and the hub after it
abbrev pub transact_reply : Ask → HubContent → Reply
transact_reply ask h = split_reply ask.split ask h

abbrev pub transacted : Ask → List ℕ → ℕ → HubContent → HubContent
transacted ask out stuff h = after_split ask.split ask out stuff h

-- The work of a microframe on the bus below: each translator works, in the order of the ports.
pub record HubWorks {W : Type 0} (transacts : W → Ask → List ℕ → Reply → W → Type 0) (frindex : ℕ) (old : HubContent) (before : W) (new : HubContent) (after : W) : Type 0 where
  pub work : AllWork transacts frindex old.translators.all before after new.translators.all
  pub same : new ≡ record old { translators = record old.translators { all = new.translators.all } }
