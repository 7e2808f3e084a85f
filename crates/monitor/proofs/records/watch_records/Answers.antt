-- `monitor::records::watch_records` meets its contract. The loop's invariant: what is kept of each member stands for what the monitor keeps behind the calls made.
use native.Mathlib.Omega.{arith}
use Rattle.monitor.proofs.WatchingLaws.{place-few, watching-first, finished, unread, further, strays, goes}
use Rattle.monitor.proofs.records.watch_records.Goals as goal

pub loop-cursor-init : goal.loop-cursor-init
loop-cursor-init c =
    let r = c.requires in
    watching-first (record { bytes = r.bytes; head = r.head_value; policy = r.config_value; inside = r.set_value }) c.empty-space.ensures c.new-watches.ensures

pub returns-in_default : goal.returns-in_default
returns-in_default c = unread c.loop-cursor.invariant c.loop-cursor-test.true c.step.ensures c.in_default.is

pub bounds-watches-place : goal.bounds-watches-place
bounds-watches-place c = place-few c.loop-cursor.invariant.begins c.in-Ok.field-0.call.process c.place_of-place.ensures

pub returns-in_default-watch : goal.returns-in_default-watch
returns-in_default-watch c =
    strays c.loop-cursor.invariant c.loop-cursor-test.true c.step.ensures c.in-Ok.is _ c.place_of-place.ensures c.watch.ensures c.in_default-watch.is

pub loop-cursor-smaller : goal.loop-cursor-smaller
loop-cursor-smaller c = omega (arith, c.loop-cursor-test.true, further c.loop-cursor.invariant c.loop-cursor-test.true c.step.ensures c.in-Ok.is)

pub loop-cursor-preserved : goal.loop-cursor-preserved
loop-cursor-preserved c =
    goes c.loop-cursor.invariant c.loop-cursor-test.true c.step.ensures c.in-Ok.is _ c.place_of-place.ensures c.watch.ensures c.in-Some.is _ c.carry_out_unchecked-space.ensures

pub returns : goal.returns
returns c = finished c.loop-cursor.invariant c.loop-cursor-test.false
