-- What a device of bytes says of them.
use Rattle.std.specs.Prelude.{◌≡◌, ℕ, ◌<◌, ◌≤◌, ◌==◌, Bool, ◌||◌, List, length, take, Option}
use Rattle.std.specs.Io.KnownBytes.{Appends, Consumes, IsAtEnd}

-- a call put n of the bytes that are left at the front of the buffer: none only at their end, or
-- where there is no room
pub record Fetches (left rest : Option (List ℕ)) (buffer : List ℕ) (n : ℕ) : Type 0 where
  pub fits : n ≤ length buffer
  pub taken : Consumes left rest (take n buffer)
  pub ended : n ≡ 0 → 0 < length buffer → IsAtEnd rest

-- known bytes lose n at most, from their front
pub record TakesAtMost (n : ℕ) (left rest : Option (List ℕ)) : Type 0 where
  pub bytes : List ℕ
  pub taken : Consumes left rest bytes
  pub few : length bytes ≤ n

-- known bytes lose some from their front, one at least
pub record TakesSome (left rest : Option (List ℕ)) : Type 0 where
  pub bytes : List ℕ
  pub taken : Consumes left rest bytes
  pub some : 0 < length bytes

-- a call took the first n of the bytes, after those that were taken before: one at least, where
-- there is one
pub record Emits (before after : Option (List ℕ)) (bytes : List ℕ) (n : ℕ) : Type 0 where
  pub fits : n ≤ length bytes
  pub some : 0 < length bytes → 0 < n
  pub put : Appends before after (take n bytes)

-- calls took a beginning of the bytes, after those that were taken before
pub record EmitsSome (before after : Option (List ℕ)) (bytes : List ℕ) : Type 0 where
  pub count : ℕ
  pub fits : count ≤ length bytes
  pub put : Appends before after (take count bytes)

-- a device and its mark
pub record Marked (D : Type 0) : Type 0 where
  pub device : D
  pub failed : Bool

-- a device that a few calls more may reach, and its mark
pub record Fuse (D : Type 0) : Type 0 where
  pub device : D
  pub calls : ℕ
  pub failed : Bool

-- it has failed, or no call passes any more
abbrev pub is_blown : {D : Type 0} → Fuse D → Bool
is_blown fuse = fuse.failed || (fuse.calls == 0)
