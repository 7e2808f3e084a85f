-- `monitor::records::watch_records` meets its contract. The loop's invariant: what is kept of each member stands for what the monitor keeps behind the calls made.
use Prim.Native.Nat.{◌-◌}
use lib.ListN.{length}
use Rattle.monitor.proofs.WatchingLaws.{Watching}
use Rattle.monitor.proofs.records.watch_records.Given as goal

abbrev pub invariant-loop-cursor : goal.invariant-loop-cursor
invariant-loop-cursor l =
    Watching l.bytes l.config l.set l.initial.cursor l.cursor.at l.number l.space l.watches

abbrev pub decreases-loop-cursor : goal.decreases-loop-cursor
decreases-loop-cursor l = length l.bytes - l.cursor.at
