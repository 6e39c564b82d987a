-- What a response says of refused bytes: its status (RFC 9110, sections 15.5 and 15.6; RFC 6585, section 5) and the refusal's name.
use Rattle.std.specs.Prelude.{ℕ, List, codes}
use Rattle.http_frames.specs.declared.refusal.FrameErr.{FrameErr}
use Rattle.http_frames.specs.declared.refusal.FrameErr.TheVariants.{HeadTooLong, BadHead, TooManyHeaders, BadHost, BothLengths, TransferCoding, BadLength, Coding, TooLong, BadChunk, NoMemory}

-- no bytes are refused for want of memory; its status is that of the response that takes none
abbrev pub refused_status : FrameErr → ℕ
refused_status HeadTooLong = 431
refused_status BadHead = 400
refused_status TooManyHeaders = 431
refused_status BadHost = 400
refused_status BothLengths = 400
refused_status TransferCoding = 501
refused_status BadLength = 400
refused_status Coding = 415
refused_status TooLong = 413
refused_status BadChunk = 400
refused_status NoMemory = 503

abbrev pub refused_name : FrameErr → List ℕ
refused_name HeadTooLong = codes "HeadTooLong"
refused_name BadHead = codes "BadHead"
refused_name TooManyHeaders = codes "TooManyHeaders"
refused_name BadHost = codes "BadHost"
refused_name BothLengths = codes "BothLengths"
refused_name TransferCoding = codes "TransferCoding"
refused_name BadLength = codes "BadLength"
refused_name Coding = codes "Coding"
refused_name TooLong = codes "TooLong"
refused_name BadChunk = codes "BadChunk"
refused_name NoMemory = codes "NoMemory"
