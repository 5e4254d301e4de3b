use Rattle.runs.proofs.Buffers.{over_front}
use Rattle.runs.proofs.call.Call.make.Goals as goal

pub returns-in-Some-clause-scene : goal.returns-in-Some-clause-scene
returns-in-Some-clause-scene g c =
    let answer = (rw c.in-Some.is at c.in_ok-answered-in-Burst.ensures.done).answer in
    let listens = rw c.in-Some.is at c.in_ok-answered-in-Burst.ensures.listens in
    let front = over_front _ c.args.buffer.now c.burst.new.reply c.taken.result.bytes c.min-room.result _ answer.count answer.bytes c.taken.ensures.bytes c.burst.auto.reply in
    cc
