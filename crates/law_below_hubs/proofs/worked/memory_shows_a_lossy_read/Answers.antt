use Rattle.law_below_hubs.proofs.WorkedWindows.{window_stands, high_breaks, requests_stand, none_left_breaks}
use Rattle.law_below_hubs.proofs.worked.memory_shows_a_lossy_read.Goals as goal

pub returns : goal.returns
returns c = record { stands = window_stands; high = high_breaks; requests = requests_stand; none_left = none_left_breaks }
