-- Places of worked rows.
--     in_hand q left           a copy of the queue head q is in hand that had no transaction yet, with this time left
--     was_settled q outcome    its transaction came to this
-- Memory is empty in both.
use Rattle.std.specs.Prelude.{ℕ, false, [], Some, None, Option}
use Rattle.usb_base.specs.declared.packets.Reply.TheVariants.{Silent}
use Rattle.link_words.specs.declared.kinds.Link.TheVariants as links
use Rattle.op_registers.specs.RegisterFile.{reset_file}
use Rattle.qh_qtd.specs.declared.queue_head.Qh.{Qh}
use Rattle.toggle_error.specs.declared.host.Outcome.{Outcome}
use Rattle.async_walk.specs.declared.state.Cursor.TheVariants as cursors
use Rattle.async_walk.specs.declared.state.ReloadMode.TheVariants.{Reload}
use Rattle.async_walk.specs.Rows.{WalkPlace}

abbrev pub at_copy : Qh → Option Outcome → ℕ → WalkPlace
at_copy q settled left = record {
  walk = record {
    cursor = cursors.At (links.Qh 0x1040);
    held = Some (record { at = 0x1040; queue_head = q; settled = settled });
    reply = Silent;
    left = left;
    mode = Reload;
    first = false;
  };
  registers = reset_file;
  memory = record { words = []; states = []; foreign = 0 };
}

abbrev pub in_hand : Qh → ℕ → WalkPlace
in_hand q left = at_copy q None left

abbrev pub was_settled : Qh → Outcome → WalkPlace
was_settled q outcome = at_copy q (Some outcome) 0
