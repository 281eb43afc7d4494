-- `Writer::put` meets its contract.
use mathlib.Core.Path.{refl}
use native.Mathlib.Omega.{arith}
use Rattle.cursor.proofs.Bytes.{put_in, put_past}
use Rattle.cursor.proofs.Writer.put.Goals.{else-length-room-via-then-length-room+else-bytes-room, else-length-room-via-else-length-room}
use Rattle.cursor.proofs.Writer.put.Goals as goal

pub returns-then-bytes-room : goal.returns-then-bytes-room
returns-then-bytes-room c =
    record { goes = put_in _ _ _ _ (omega (arith, c.if-bytes-room.true, c.if-length-room.true)) c.copy.ensures; same = refl; lent = refl }

pub returns-else-length-room : goal.returns-else-length-room
returns-else-length-room c =
    elim c.else-length-room.branch [
      | else-length-room-via-then-length-room+else-bytes-room w ↦ record { goes = put_past _ _ _ (omega (arith, w.if-length-room.true, w.if-bytes-room.false)); same = refl; lent = refl }
      | else-length-room-via-else-length-room w ↦ record { goes = put_past _ _ _ (omega (arith, w.if-length-room.false)); same = refl; lent = refl }
    ]
