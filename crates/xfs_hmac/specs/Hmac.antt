-- HMAC (RFC 2104) over SHA-256: the hash of the outer key and the hash of the inner key and the message.
use Rattle.std.specs.Prelude.{ℕ, ◌-◌, List, [], ◌++◌, length, map, replicate, bit_xor, nat_lt, if◌then◌else◌}
use Rattle.sha2.specs.Sha256.{sha256}
use Rattle.sha2.specs.Hashers.{Holds256}
use Rattle.xfs_hmac.specs.declared.key.Key.{Key}
use Rattle.xfs_hmac.specs.declared.pieces.Mac.{Mac}

-- a key of more than a block is replaced by its digest
abbrev pub shortened : List ℕ → List ℕ
shortened k = if nat_lt 64 (length k) then sha256 k else k

-- the key, filled with zeros to a block
abbrev pub block_key : List ℕ → List ℕ
block_key k = shortened k ++ replicate (64 - length (shortened k)) 0

-- each byte of the key's block, combined with the mask
abbrev pub masked : ℕ → List ℕ → List ℕ
masked mask k = map (λ b. bit_xor b mask) (block_key k)

-- H(K xor opad, H(K xor ipad, message)), as in RFC 2104, section 2
unfoldable pub hmac : List ℕ → List ℕ → List ℕ
hmac k m = sha256 (masked 0x5c k ++ sha256 (masked 0x36 k ++ m))

-- the HMAC s, begun with the key k, has taken in the message m
abbrev pub HoldsMac : Mac → List ℕ → List ℕ → Type 0
HoldsMac s k m = (Holds256 s.inner (masked 0x36 k ++ m)) × (Holds256 s.outer (masked 0x5c k))

-- both blocks of the key k are taken in
abbrev pub IsKey : Key → List ℕ → Type 0
IsKey s k = HoldsMac s.begun k []
