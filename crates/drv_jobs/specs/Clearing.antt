-- How the halt of an endpoint is cleared (EHCI 1.0, 3.6.3 and 4.10.3; USB 2.0, 5.7.5, 5.8.5 and 9.4.5): its queue head gets three words,
-- what its transfers still have is given back, and it is open again.
--     mend_of x word           the store of this word of the queue head of x
--     given_back p e           each transfer of endpoint e that still has its blocks is given back
--     reopened p e x           x, of number e, is open again, and a line tells it
use Rattle.std.specs.Prelude.{ℕ, zero, suc, ◌+◌, ◌-◌, ◌*◌, ◌==◌, Bool, true, not, ◌&&◌, [], length, slice_get, slice_set, Option, Some, None, if◌then◌else◌}
use Rattle.std.specs.List.{list_any}
use Rattle.usb_base.specs.declared.reports.What.TheVariants as lines
use Rattle.mem_runs.specs.Book.{Holding, holding}
use Rattle.drv_table.specs.declared.content.Endpoint.{Endpoint}
use Rattle.drv_table.specs.declared.content.Mend.{Mend}
use Rattle.drv_table.specs.declared.content.Transfer.{Transfer}
use Rattle.drv_table.specs.DriverContent.{DriverContent}
use Rattle.drv_table.specs.Harvests.{reported}
use Rattle.drv_table.specs.Parts.{Parts}
use Rattle.drv_table.specs.Releases.{free_qtds}
use Rattle.drv_jobs.specs.declared.jobs.OverlayWord.{OverlayWord}
use Rattle.drv_jobs.specs.declared.jobs.OverlayWord.TheVariants as words

-- The overlay leads to the dummy, has no alternate, and is neither active nor halted (3.6.3).
abbrev pub mend_of : Endpoint → OverlayWord → Mend
mend_of x words.Next = record { queue = x.queue; at = 32 * x.queue + 16; value = 32 * x.dummy }
mend_of x words.Alternate = record { queue = x.queue; at = 32 * x.queue + 20; value = 1 }
mend_of x words.Token = record { queue = x.queue; at = 32 * x.queue + 24; value = 0 }

-- the transfer t is the endpoint's, wasn't given back, and doesn't wait for that
abbrev pub still_has : DriverContent → ℕ → ℕ → Transfer → Bool
still_has d e t x = x.endpoint == e && not x.released && not (list_any (λ u. u == t) d.harvested)

-- a transfer with these runs given back
abbrev pub released_with : Parts → ℕ → Transfer → Holding → Parts
released_with p t x h =
    record p {
      driver = record p.driver {
        book = h.book;
        transfers = slice_set p.driver.transfers t (record x { reported = true; released = true });
      };
      memory = h.memory;
    }

abbrev pub released_one : Parts → ℕ → ℕ → Option Transfer → Parts
released_one p e t None = p
released_one p e t (Some x) =
    if still_has p.driver e t x then released_with p t x (free_qtds p.driver.notes (holding p.driver.book p.memory) x.first x.qtds) else p

-- the same of n transfers from number t on
unfoldable pub released_from : Parts → ℕ → ℕ → ℕ → Parts
released_from p e t zero = p
released_from p e t (suc n) = released_from (released_one p e t (slice_get p.driver.transfers t)) e (suc t) n

abbrev pub given_back : Parts → ℕ → Parts
given_back p e = released_from p e 0 (length p.driver.transfers)

-- the endpoint hasn't ended, and has nothing to harvest; the line is one less in the room
abbrev pub opened_again : DriverContent → ℕ → Endpoint → DriverContent
opened_again d e x =
    record (reported d lines.Clear x.desc.name []) {
      endpoints = slice_set d.endpoints e (record x { next = None; ended = None });
      room = record d.room { reports = d.room.reports - 1 };
    }

abbrev pub reopened : Parts → ℕ → Option Endpoint → Parts
reopened p e None = p
reopened p e (Some x) = record (given_back p e) { driver = opened_again (given_back p e).driver e x }
