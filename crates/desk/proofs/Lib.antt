-- Laws of the answer block.
mod Bytes  -- the bytes of the block
mod Calling  -- the call
mod ExactRelease  -- plans without jitter
