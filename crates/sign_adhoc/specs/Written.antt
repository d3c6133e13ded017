-- An image that was signed.
use Rattle.std.specs.Prelude.{ℕ, ◌+◌, ◌≡◌, ◌<◌, ◌^◌, Bool, List, length, take, drop}
use Rattle.sign_adhoc.specs.Signature.{padded, signature, signature_size}

-- from a place on to its end an image has the signature of what stands before it, with its zeros
pub record IsWritten (image : List ℕ) (from : ℕ) (identifier : List ℕ) (text_size : ℕ) (main : Bool) : Type 0 where
  pub place : from + signature_size (length identifier) from ≡ length image
  pub bytes : drop from image ≡ padded (signature (take from image) identifier text_size main)
  pub few : length image < 2 ^ 32
  pub text : text_size < 2 ^ 64
