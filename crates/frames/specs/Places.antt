-- Where a device's bytes stand in host data, in a write frame and in a reply. Device k of 01 has the index k - 1 here. Assumes nothing.
use Rattle.std.specs.Prelude.{ℕ, ◌+◌, ◌*◌, ◌-◌, List, take, drop}

-- host data: always in device order
unfoldable pub six : ℕ → List ℕ → List ℕ
six k bytes = take 6 (drop (6 * k) bytes)

-- a write for n devices: the first group on the wire goes to device n, the last to device 1
unfoldable pub wire : ℕ → ℕ → List ℕ → List ℕ
wire n k frame = take 8 (drop (4 + 8 * (n - 1 - k)) frame)

-- a reply: the first group comes from device 1
unfoldable pub eight : ℕ → List ℕ → List ℕ
eight k reply = take 8 (drop (4 + 8 * k) reply)
