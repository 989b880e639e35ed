mod KeyInfos
mod OneData
mod OneCertificate
